-- What is known where a row is due.
use Rattle.std.proofs.Common.{◌≡◌, ◌≤◌, ℕ, Bool, true, false, not, ◌&&◌, ◌==◌, nat_lt, Option, Some, None, refl, sym, subst, arith}
use Rattle.std.specs.Prelude.{if◌then◌else◌, option_and_then}
use Rattle.std.proofs.lemmas.Bool.{and_parts}
use Rattle.std.proofs.lemmas.Bool.Decides.{nat_tests}
use Rattle.hp_model.specs.declared.labels.Label.{Label}
use Rattle.hp_model.specs.declared.platforms.Platform.{Platform}
use Rattle.hp_model.specs.Handlers.{current_label, is_current, is_tile, label_of_mark, runs_at, slot_at}
use Rattle.hp_model.specs.declared.labels.Handler.{Handler}
use Rattle.hp_model.specs.declared.labels.Handler.TheVariants.{First, Relocated, Monarch as Monarchs}
use Rattle.hp_model.specs.Labels.{label_with, handler_of}
use Rattle.hp_model.specs.Monarch.{Monarch}
use Rattle.hp_model.specs.Platform.{IsFit}
use Rattle.hp_model.specs.SharedBytes.{Layout, layout_of, tile_in}
use Rattle.hp_model.proofs.FitPlatforms.{apic_few, tseg_below}
use Rattle.hp_model.proofs.Marks.{same_label}
use Rattle.hp_monarch.specs.Session.{Session}
use Rattle.hp_smm.specs.declared.handlers.SmmCpu.{SmmCpu}
use Rattle.hp_smm.specs.Rows.{IsLow, row_for}

-- its handler runs here, and it is due
pub record IsDue (y : Layout) (r : Monarch) (cpu smbase : ℕ) (l : Label) : Type 0 where
  pub runs : runs_at y (handler_of l) cpu smbase ≡ true
  pub due : is_current r (handler_of l) l ≡ true

due_at : (y : Layout) (r : Monarch) (cpu smbase : ℕ) (m : Label) (a b : Bool) → runs_at y (handler_of m) cpu smbase ≡ a → is_current r (handler_of m) m ≡ b → (l : Label) →
    (if a && b then Some m else None) ≡ Some l → IsDue y r cpu smbase l
due_at y r cpu smbase m true true e f l g = subst (λ (k : Label). IsDue y r cpu smbase k) (the_same m l g) (record { runs = e; due = f })
  where
    the_same : (m l : Label) → Some m ≡ Some l → m ≡ l
    the_same m l g = cc
due_at y r cpu smbase m true false e f l g = absurd cc
due_at y r cpu smbase m false b e f l g = absurd cc

due_in : (y : Layout) (r : Monarch) (cpu smbase : ℕ) (o : Option Label) (l : Label) → option_and_then (current_label y r cpu smbase) o ≡ Some l → IsDue y r cpu smbase l
due_in y r cpu smbase None l e = absurd cc
due_in y r cpu smbase (Some m) l e = due_at y r cpu smbase m (runs_at y (handler_of m) cpu smbase) (is_current r (handler_of m) m) refl refl l e

pub is_due_of : (y : Layout) (r : Monarch) (cpu smbase mark : ℕ) (l : Label) → label_of_mark y r cpu smbase mark ≡ Some l → IsDue y r cpu smbase l
unfolding label_of_mark
is_due_of y r cpu smbase mark l e = due_in y r cpu smbase (label_with mark) l e

-- the monarch's row is the one where its record stands
monarch_due : (r : Monarch) (h : Handler) (l : Label) → h ≡ Monarchs → is_current r h l ≡ true → l ≡ r.label
monarch_due r First l e d = absurd cc
monarch_due r Relocated l e d = absurd cc
monarch_due r Monarchs l e d = same_label l r.label (grind (arith, nat_tests, d))

pub monarch_label : (y : Layout) (r : Monarch) (cpu smbase mark : ℕ) (l : Label) → label_of_mark y r cpu smbase mark ≡ Some l → handler_of l ≡ Monarchs → l ≡ r.label
monarch_label y r cpu smbase mark l e p = monarch_due r (handler_of l) l p (is_due_of y r cpu smbase mark l e).due

-- a platform that fits has a low layout
pub fits_low : (p : Platform) (y : Layout) → y ≡ layout_of p → IsFit p → IsLow y
fits_low p y is fit = subst IsLow (sym is) (record { tseg = tseg_below p fit; count = apic_few p fit })

-- a handler runs at the default SMBASE and at tiles alone
tile_low : (y : Layout) (slot smbase : ℕ) → IsLow y → (nat_lt slot y.count && (smbase == tile_in y slot)) ≡ true → smbase ≤ 0x90000000
tile_low y slot smbase low is = grind (arith, nat_tests, low.tseg, low.count, is)

runs_low : (y : Layout) (h : Handler) (cpu smbase : ℕ) → IsLow y → runs_at y h cpu smbase ≡ true → smbase ≤ 0x90000000
runs_low y First cpu smbase low runs = grind (arith, nat_tests, runs)
runs_low y Relocated cpu smbase low runs =
    let here = and_parts (not (cpu == 0)) (not (slot_at y smbase == 0) && is_tile y smbase) runs in
    let tile = and_parts (not (slot_at y smbase == 0)) (is_tile y smbase) here.1 in
    tile_low y (slot_at y smbase) smbase low tile.1
runs_low y Monarchs cpu smbase low runs = grind (arith, nat_tests, low.tseg, runs)

-- so a row is due at such SMBASEs alone
row_low : (y : Layout) (r : Monarch) (cpu smbase mark : ℕ) (l : Label) → IsLow y → label_of_mark y r cpu smbase mark ≡ Some l → smbase ≤ 0x90000000
row_low y r cpu smbase mark l low e = runs_low y (handler_of l) cpu smbase low (is_due_of y r cpu smbase mark l e).runs

pub stands_low : (h : Session) (s : SmmCpu) (l : Label) → IsLow h.layout → row_for h s ≡ Some l → s.smbase ≤ 0x90000000
stands_low h s l low row = row_low h.layout h.monarch s.cpu s.smbase s.mark l low row
