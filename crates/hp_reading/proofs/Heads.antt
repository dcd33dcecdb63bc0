-- The platform of a header fits.
use Rattle.std.proofs.Common.{◌≡◌, List, ℕ, Some}
use Rattle.hp_model.specs.declared.platforms.Platform.{Platform}
use Rattle.hp_model.specs.Platform.{IsFit}
use Rattle.hp_reading.specs.Header.{head_of}
use Rattle.hp_reading.proofs.HeaderLines.{headers_are_read}

pub fit_head : (text : List ℕ) (p : Platform) → head_of text ≡ Some p → IsFit p
fit_head text p e = ((headers_are_read text p).0 e).fit

pub ruleset head_facts = (fit_head)
