mod Lines
mod Bytes
mod Telling
mod Feeds
mod Taking
mod Verdicts
