-- Nobody leaves but by an eject, while a session is undisturbed: what each state keeps for it.
use Rattle.std.proofs.Common.{◌≡◌, ◌≢◌, Bool, true, false, not, ◌&&◌, ◌||◌, List, [], ◌∷◌}
use Rattle.hp_model.specs.declared.platforms.Platform.{Platform}
use Rattle.hp_model.specs.declared.processors.Cpu.{Cpu}
use Rattle.hp_model.specs.declared.labels.Label.{Label}
use Rattle.hp_model.specs.declared.labels.Label.TheVariants.{E0, E1, E2, E3, E4a, E4b, E4f, E4g, E4h, T}
use Rattle.hp_model.specs.Cpu.{cpu_at}
use Rattle.hp_model.specs.Block.{Block, slot_at}
use Rattle.hp_model.specs.Monarch.{Monarch}
use Rattle.hp_model.specs.Transitions.{Transition}
use Rattle.hp_model.specs.Outcomes.{departures, may_lose, is_none}
use Rattle.hp_exact.specs.Refusals.{is_blaming}
use Rattle.hp_exact.proofs.Monarchs.{is_among, adding}

-- an eject whose processor is still there, and one that is handed to the register block
abbrev pub pending : List Label
pending = E0 ∷ E1 ∷ E2 ∷ E3 ∷ E4a ∷ E4b ∷ []

abbrev pub handed : List Label
handed = E4f ∷ E4g ∷ []

-- nobody has left in the entries of the outcome so far
abbrev pub is_keeping : Monarch → Bool
is_keeping r = is_among r.label adding || (is_among r.label pending || (is_among r.label (T ∷ []) && not (may_lose r.outcome)))

-- While the session is undisturbed: the running eject's processor is there until it is handed to the register block, isn't processor 0, and then has no firmware
-- eject left, which E4g sees; so the eject isn't given up, and no outcome blames others. And nobody has left in the entries of an outcome, until then
pub record Losses (p : Platform) (own : List Transition) (b : Block) (cs : List Cpu) (r : Monarch) : Type 0 where
  pub waits : is_among r.label pending ≡ true → (cpu_at cs r.eject.cpu).present ≡ true
  pub other : is_among r.label pending ≡ true → r.eject.cpu ≢ 0
  pub cleared : is_among r.label handed ≡ true → (slot_at b r.eject.cpu).ejecting ≡ false
  pub looked : is_among r.label (E4g ∷ []) ≡ true → b.selector ≡ r.eject.cpu
  pub never : is_among r.label (E4h ∷ []) ≡ false
  pub kept : is_keeping r ≡ true → is_none (departures p own) ≡ true
  pub tame : is_among r.label (T ∷ []) ≡ true → is_blaming r.outcome ≡ false
