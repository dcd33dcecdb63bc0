-- Entries, and whole runs.
use Rattle.hp_secrecy.proofs.Runs.{from_alike, runs_alike}
use Rattle.hp_secrecy.proofs.Shields.{always_shielded}
use Rattle.hp_secrecy.proofs.laws.runs_keep_secrets.Goals as goal

pub returns-clause-states : goal.returns-clause-states
returns-clause-states c = from_alike

pub returns-clause-shielded : goal.returns-clause-shielded
returns-clause-shielded c = always_shielded

pub returns-clause-runs : goal.returns-clause-runs
returns-clause-runs c = λ p xs ys es fs s t u v fit go. runs_alike p xs ys es fs s t u v fit (always_shielded p fit) go
