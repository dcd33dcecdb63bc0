-- Processors that are alike stay so, whatever happens to both of them.
use Rattle.std.proofs.Common.{ℕ, zero, suc, ◌≡◌, Bool, true, false, cond, List, [], ◌∷◌, map, slice_set, Option, Some, None, refl, sym, ap, ◌∙◌}
use Rattle.std.specs.Prelude.{slice_index_or}
use Rattle.hp_model.specs.declared.processors.Mode.{Mode}
use Rattle.hp_model.specs.declared.processors.Mode.TheVariants.{Wait, Running, Halted, Smm}
use Rattle.hp_model.specs.declared.processors.Cpu.{Cpu}
use Rattle.hp_model.specs.declared.processors.Kind.{Kind}
use Rattle.hp_model.specs.declared.processors.Kind.TheVariants.{Smi, Init, Start}
use Rattle.hp_model.specs.declared.processors.Ipi.{Ipi}
use Rattle.hp_model.specs.Cpu.{absent, cpu_at, is_waiting, is_in_smm, halted, halt, started, hit_present, hit}
use Rattle.hp_model.specs.Interrupts.{is_target, hit_each, sent, smi_raised}
use Rattle.hp_model.specs.Handlers.{Next}
use Rattle.hp_model.specs.Ports.{without_ejected}
use Rattle.hp_model.specs.Firmware.{moved_in_smm}
use Rattle.hp_model.specs.Visible.{visible_mode, visible_cpu}

abbrev pub AlikeCpu : Cpu → Cpu → Type 0
AlikeCpu c d = visible_cpu c ≡ visible_cpu d

abbrev pub AlikeCpus : List Cpu → List Cpu → Type 0
AlikeCpus cs ds = map visible_cpu cs ≡ map visible_cpu ds

-- both sides of a choice
pub pick_both : {X : Type 0} (R : X → X → Type 0) (b : Bool) (x y u v : X) → R x u → R y v → R (cond b x y) (cond b u v)
pick_both R true x y u v h g = h
pick_both R false x y u v h g = g

first_alike : (c d : Cpu) (cs ds : List Cpu) → AlikeCpus (c ∷ cs) (d ∷ ds) → AlikeCpu c d
first_alike c d cs ds e = ap (λ xs. slice_index_or xs 0 absent) e

abbrev rest_of : List Cpu → List Cpu
rest_of [] = []
rest_of (c ∷ cs) = cs

rest_alike : (c d : Cpu) (cs ds : List Cpu) → AlikeCpus (c ∷ cs) (d ∷ ds) → AlikeCpus cs ds
rest_alike c d cs ds e = ap rest_of e

both_alike : (c d : Cpu) (cs ds : List Cpu) → AlikeCpu c d → AlikeCpus cs ds → AlikeCpus (c ∷ cs) (d ∷ ds)
both_alike c d cs ds e f = ap (λ x. x ∷ map visible_cpu cs) e ∙ ap (λ xs. visible_cpu d ∷ xs) f

-- in each place
pub alike_at : (cs ds : List Cpu) (k : ℕ) → AlikeCpus cs ds → AlikeCpu (cpu_at cs k) (cpu_at ds k)
alike_at [] [] k e = refl
alike_at [] (d ∷ ds) k e = absurd cc
alike_at (c ∷ cs) [] k e = absurd cc
alike_at (c ∷ cs) (d ∷ ds) zero e = first_alike c d cs ds e
alike_at (c ∷ cs) (d ∷ ds) (suc k) e = alike_at cs ds k (rest_alike c d cs ds e)

pub alike_set : (cs ds : List Cpu) (k : ℕ) (c d : Cpu) → AlikeCpus cs ds → AlikeCpu c d → AlikeCpus (slice_set cs k c) (slice_set ds k d)
alike_set [] [] k c d e f = refl
alike_set [] (y ∷ ds) k c d e f = absurd cc
alike_set (x ∷ cs) [] k c d e f = absurd cc
alike_set (x ∷ cs) (y ∷ ds) zero c d e f = both_alike c d cs ds f (rest_alike x y cs ds e)
alike_set (x ∷ cs) (y ∷ ds) (suc k) c d e f = both_alike x y (slice_set cs k c) (slice_set ds k d) (first_alike x y cs ds e) (alike_set cs ds k c d (rest_alike x y cs ds e) f)

-- one that is changed to one that is alike
pub alike_unseen : (cs : List Cpu) (k : ℕ) (c : Cpu) → AlikeCpu c (cpu_at cs k) → AlikeCpus (slice_set cs k c) cs
alike_unseen [] k c e = refl
alike_unseen (x ∷ cs) zero c e = both_alike c x cs cs e refl
alike_unseen (x ∷ cs) (suc k) c e = both_alike x x (slice_set cs k c) cs refl (alike_unseen cs k c e)

-- what is visible of a processor decides what is visible of it after a hit and after a halt
halt_visible : (m : Mode) → visible_mode (halted m) ≡ visible_mode (halted (visible_mode m))
halt_visible Wait = refl
halt_visible (Running page) = refl
halt_visible (Halted page) = refl
halt_visible (Smm address) = refl

start_visible : (page : ℕ) (m : Mode) → visible_mode (started page m) ≡ visible_mode (started page (visible_mode m))
start_visible page Wait = refl
start_visible page (Running old) = refl
start_visible page (Halted old) = refl
start_visible page (Smm address) = refl

waiting_visible : (m : Mode) → is_waiting (visible_mode m) ≡ is_waiting m
waiting_visible Wait = refl
waiting_visible (Running page) = refl
waiting_visible (Halted page) = refl
waiting_visible (Smm address) = refl

again_visible : (m : Mode) → visible_mode (visible_mode m) ≡ visible_mode m
again_visible Wait = refl
again_visible (Running page) = refl
again_visible (Halted page) = refl
again_visible (Smm address) = refl

pub smm_visible : (m : Mode) → is_in_smm (visible_mode m) ≡ is_in_smm m
smm_visible Wait = refl
smm_visible (Running page) = refl
smm_visible (Halted page) = refl
smm_visible (Smm address) = refl

pub in_smm_alike : (c d : Cpu) → AlikeCpu c d → is_in_smm c.mode ≡ is_in_smm d.mode
in_smm_alike c d e = sym (smm_visible c.mode) ∙ ap (λ x. is_in_smm x.mode) e ∙ smm_visible d.mode

-- a change that what is visible decides
abbrev IsVisibly : (Cpu → Cpu) → Type 0
IsVisibly f = (c : Cpu) → AlikeCpu (f c) (f (visible_cpu c))

by_visible : (f : Cpu → Cpu) → IsVisibly f → (c d : Cpu) → AlikeCpu c d → AlikeCpu (f c) (f d)
by_visible f h c d e = h c ∙ ap (λ x. visible_cpu (f x)) e ∙ sym (h d)

pub alike_halt : (c d : Cpu) → AlikeCpu c d → AlikeCpu (halt c) (halt d)
alike_halt = by_visible halt (λ c. ap (λ m. record (visible_cpu c) { mode = m }) (halt_visible c.mode))

hit_present_visibly : (kind : Kind) → IsVisibly (hit_present kind)
hit_present_visibly Smi c = ap (λ m. record (visible_cpu c) { smi = true; mode = m }) (sym (again_visible c.mode))
hit_present_visibly Init c = rw (waiting_visible c.mode)
    (pick_both AlikeCpu (is_waiting c.mode) c (record c { init = true }) (visible_cpu c) (record (visible_cpu c) { init = true })
    (ap (λ m. record (visible_cpu c) { mode = m }) (sym (again_visible c.mode)))
    (ap (λ m. record (visible_cpu c) { init = true; mode = m }) (sym (again_visible c.mode))))
hit_present_visibly (Start page) c = ap (λ m. record (visible_cpu c) { mode = m }) (start_visible page c.mode)

hit_visibly : (kind : Kind) → IsVisibly (hit kind)
hit_visibly kind c = pick_both AlikeCpu c.present (hit_present kind c) c (hit_present kind (visible_cpu c)) (visible_cpu c) (hit_present_visibly kind c)
    (ap (λ m. record (visible_cpu c) { mode = m }) (sym (again_visible c.mode)))

pub alike_hit : (kind : Kind) (c d : Cpu) → AlikeCpu c d → AlikeCpu (hit kind c) (hit kind d)
alike_hit kind = by_visible (hit kind) (hit_visibly kind)

alike_hit_each : (aims : ℕ → Bool) (kind : Kind) (ids : List ℕ) (cs ds : List Cpu) → AlikeCpus cs ds → AlikeCpus (hit_each aims kind ids cs) (hit_each aims kind ids ds)
unfolding hit_each
alike_hit_each aims kind [] cs ds e = e
alike_hit_each aims kind (id ∷ ids) [] [] e = refl
alike_hit_each aims kind (id ∷ ids) [] (d ∷ ds) e = absurd cc
alike_hit_each aims kind (id ∷ ids) (c ∷ cs) [] e = absurd cc
alike_hit_each aims kind (id ∷ ids) (c ∷ cs) (d ∷ ds) e =
    let here = first_alike c d cs ds e in
    both_alike (cond (aims id) (hit kind c) c) (cond (aims id) (hit kind d) d) (hit_each aims kind ids cs) (hit_each aims kind ids ds)
    (pick_both AlikeCpu (aims id) (hit kind c) c (hit kind d) d (alike_hit kind c d here) here)
    (alike_hit_each aims kind ids cs ds (rest_alike c d cs ds e))

pub alike_sent : (ipi : Option Ipi) (sender : ℕ) (ids : List ℕ) (cs ds : List Cpu) → AlikeCpus cs ds → AlikeCpus (sent ipi sender ids cs) (sent ipi sender ids ds)
alike_sent None sender ids cs ds e = e
alike_sent (Some ipi) sender ids cs ds e = alike_hit_each (is_target ipi.to sender) ipi.kind ids cs ds e

pub alike_raised : (broadcast : Bool) (k : ℕ) (ids : List ℕ) (cs ds : List Cpu) → AlikeCpus cs ds → AlikeCpus (smi_raised broadcast k ids cs) (smi_raised broadcast k ids ds)
alike_raised true k ids cs ds e = alike_hit_each (λ id. true) Smi ids cs ds e
alike_raised false k ids cs ds e = alike_set cs ds k (hit Smi (cpu_at cs k)) (hit Smi (cpu_at ds k)) e (alike_hit Smi (cpu_at cs k) (cpu_at ds k) (alike_at cs ds k e))

pub alike_ejected : (place : Option ℕ) (cs ds : List Cpu) → AlikeCpus cs ds → AlikeCpus (without_ejected place cs) (without_ejected place ds)
alike_ejected None cs ds e = e
alike_ejected (Some k) cs ds e = alike_set cs ds k absent absent e refl

-- where a handler's row leads is not visible
pub go_on_unseen : (smbase : ℕ) (n : Next) (c : Cpu) → AlikeCpu (moved_in_smm smbase n c) c
go_on_unseen smbase n c = by_mode c.present c.mode refl refl
  where
    by_mode : (present : Bool) (m : Mode) → c.present ≡ present → c.mode ≡ m → AlikeCpu (moved_in_smm smbase n c) c
    by_mode false m here there = rw here refl
    by_mode true Wait here there = rw (here, there) refl
    by_mode true (Running page) here there = rw (here, there) refl
    by_mode true (Halted page) here there = rw (here, there) refl
    by_mode true (Smm address) here there = rw (here, there) refl
