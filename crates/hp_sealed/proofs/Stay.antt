-- What stays of a processor when others act: presence, SMBASE, the base that it has loaded, and where it stands in SMM.
use Rattle.std.proofs.Common.{ℕ, zero, suc, ◌≡◌, Bool, true, false, List, [], ◌∷◌, slice_set, Option, Some, None, refl}
use Rattle.hp_model.specs.declared.processors.Mode.{Mode}
use Rattle.hp_model.specs.declared.processors.Mode.TheVariants.{Wait, Running, Halted, Smm}
use Rattle.hp_model.specs.declared.processors.Cpu.{Cpu}
use Rattle.hp_model.specs.declared.processors.Kind.{Kind}
use Rattle.hp_model.specs.declared.processors.Kind.TheVariants.{Smi, Init, Start}
use Rattle.hp_model.specs.declared.processors.Ipi.{Ipi}
use Rattle.hp_model.specs.Cpu.{absent, cpu_at, is_waiting, address_in, smm_address, halted, halt, started, hit_present, hit}
use Rattle.hp_model.specs.Interrupts.{is_target, hit_each, sent, smi_raised}
use Rattle.hp_sealed.proofs.Left.{pick}

pub record Stays (c d : Cpu) : Type 0 where
  pub present : d.present ≡ c.present
  pub smbase : d.smbase ≡ c.smbase
  pub base : d.base ≡ c.base
  pub address : smm_address d ≡ smm_address c

pub stays_same : (c : Cpu) → Stays c c
stays_same c = record { present = refl; smbase = refl; base = refl; address = refl }

address_started : (page : ℕ) (m : Mode) → address_in (started page m) ≡ address_in m
address_started page Wait = refl
address_started page (Running q) = refl
address_started page (Halted q) = refl
address_started page (Smm a) = refl

address_halted : (m : Mode) → address_in (halted m) ≡ address_in m
address_halted Wait = refl
address_halted (Running q) = refl
address_halted (Halted q) = refl
address_halted (Smm a) = refl

stays_hit_present : (k : Kind) (c : Cpu) → Stays c (hit_present k c)
stays_hit_present Smi c = record { present = refl; smbase = refl; base = refl; address = refl }
stays_hit_present Init c = pick (Stays c) (is_waiting c.mode) c (record c { init = true }) (stays_same c) (record { present = refl; smbase = refl; base = refl; address = refl })
stays_hit_present (Start page) c = record { present = refl; smbase = refl; base = refl; address = rw (address_started page c.mode) refl }

pub stays_hit : (k : Kind) (c : Cpu) → Stays c (hit k c)
stays_hit k c = pick (Stays c) c.present (hit_present k c) c (stays_hit_present k c) (stays_same c)

pub stays_halt : (c : Cpu) → Stays c (halt c)
stays_halt c = record { present = refl; smbase = refl; base = refl; address = rw (address_halted c.mode) refl }

abbrev pub AllStay : List Cpu → List Cpu → Type 0
AllStay cs ds = (k : ℕ) → Stays (cpu_at cs k) (cpu_at ds k)

pub stays_hit_each : (aims : ℕ → Bool) (kind : Kind) (ids : List ℕ) (cs : List Cpu) → AllStay cs (hit_each aims kind ids cs)
unfolding hit_each
stays_hit_each aims kind [] cs k = stays_same (cpu_at cs k)
stays_hit_each aims kind (id ∷ ids) [] k = stays_same absent
stays_hit_each aims kind (id ∷ ids) (c ∷ cs) zero = pick (Stays c) (aims id) (hit kind c) c (stays_hit kind c) (stays_same c)
stays_hit_each aims kind (id ∷ ids) (c ∷ cs) (suc k) = stays_hit_each aims kind ids cs k

pub stays_sent : (ipi : Option Ipi) (sender : ℕ) (ids : List ℕ) (cs : List Cpu) → AllStay cs (sent ipi sender ids cs)
stays_sent None sender ids cs = λ k. stays_same (cpu_at cs k)
stays_sent (Some ipi) sender ids cs = stays_hit_each (is_target ipi.to sender) ipi.kind ids cs

-- what one change of one place leaves at all places
pub at_set : (R : Cpu → Cpu → Type 0) (cs : List Cpu) (i : ℕ) (d : Cpu) → ((k : ℕ) → R (cpu_at cs k) (cpu_at cs k)) → R (cpu_at cs i) d → (k : ℕ) → R (cpu_at cs k) (cpu_at (slice_set cs i d) k)
at_set R [] i d same here k = same k
at_set R (c ∷ cs) zero d same here zero = here
at_set R (c ∷ cs) zero d same here (suc k) = same (suc k)
at_set R (c ∷ cs) (suc i) d same here zero = same zero
at_set R (c ∷ cs) (suc i) d same here (suc k) = at_set R cs i d (λ j. same (suc j)) here k

pub stays_set : (cs : List Cpu) (i : ℕ) (d : Cpu) → Stays (cpu_at cs i) d → AllStay cs (slice_set cs i d)
stays_set cs i d here = at_set Stays cs i d (λ k. stays_same (cpu_at cs k)) here

pub stays_raised : (b : Bool) (k : ℕ) (ids : List ℕ) (cs : List Cpu) → AllStay cs (smi_raised b k ids cs)
stays_raised true k ids cs = stays_hit_each (λ id. true) Smi ids cs
stays_raised false k ids cs = stays_set cs k (hit Smi (cpu_at cs k)) (stays_hit Smi (cpu_at cs k))
