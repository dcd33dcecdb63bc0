-- Accesses 5 to 17: the default area, the marks, a TSEG of 48 MiB, and the locks.
use Rattle.std.proofs.Common.{◌≡◌, ℕ, Bool, true, false, not, ◌||◌, ◌==◌, ◌+◌, ◌*◌, ◌<◌, ◌≤◌, List, refl, sym, ap, subst, arith, nat_le, bit_and}
use Rattle.std.specs.Prelude.{if◌then◌else◌}
use Rattle.std.proofs.lemmas.Bool.{eqb-true}
use Rattle.std.proofs.lemmas.Bool.Decides.{nat_tests}
use Rattle.hp_model.specs.declared.platforms.Platform.{Platform}
use Rattle.hp_model.specs.declared.accesses.Access.TheVariants.{CfgRead, CfgWrite}
use Rattle.hp_model.specs.declared.accesses.Answer.TheVariants.{Quiet, Value}
use Rattle.hp_model.specs.declared.outcomes.BootFact.TheVariants.{NoDefaultSmram, NoExtTseg}
use Rattle.hp_model.specs.declared.labels.Label.TheVariants.{F1, F2, F3, F4, F5, F6}
use Rattle.hp_model.specs.Image.{image}
use Rattle.hp_model.specs.Labels.{mark_of}
use Rattle.hp_model.specs.Memory.{Write}
use Rattle.hp_model.specs.View.{Locks, is_hole, tseg_size}
use Rattle.hp_model.specs.Block.{Block, bit}
use Rattle.hp_model.specs.FwCfg.{FwCfg, fw_cfg_start}
use Rattle.hp_model.specs.Boot.{Stage, Boots, Refused, pen_mark, tseg_enabled, boot_accesses, boot_access, ext_count, stage_after}
use Rattle.hp_model.specs.State.{State}
use Rattle.hp_boot.specs.Booting.{tail_accesses}
use Rattle.hp_boot.specs.Ending.{has_size, is_negotiable}
use Rattle.hp_boot.proofs.Start.{Facts}
use Rattle.hp_boot.proofs.Open.{HasRoom, open_below}
use Rattle.hp_boot.proofs.Going.{Ends, ends_refused, made}
use Rattle.hp_boot.proofs.Parts.{in_ext}
use Rattle.hp_boot.proofs.Places.{at_place, locks_by, locked, end_by, more, rest, goes, makes, store}
use Rattle.hp_boot.proofs.Tail.{place, head_by, head_fact, head_stage, tail_access, tail_stage}
use Rattle.hp_boot.proofs.Features.{requested, chosen_end}

-- 7 to 14: the pen's mark, the marks of the first handler, and the gate
module _ (p : Platform) (f : Facts p) (end : Stage) (b : Block) (c : FwCfg) where
  abbrev asked : Locks
  asked = locks_by p 1 0 0 0

  shows : (addr width : ℕ) → addr + width ≤ 0x800000 → is_hole asked false addr width ≡ false
  shows addr width below = open_below asked (let low = f.memory in omega (arith, low)) addr width below refl

  on : (done : ℕ) → done < 16 → stage_after p.tseg_mib Quiet (Boots done 0) ≡ head_by (head_fact done 0) done 0
  on done early = head_stage p.tseg_mib done 0 Quiet early

  marks : ((ws : List Write) → Ends p (more 1 (rest p)) (at_place p b asked ws c 14 0) end) → (ws : List Write) → Ends p (more 9 (rest p)) (at_place p b asked ws c 6 0) end
  unfolding boot_access boot_accesses
  marks later ws =
      store p f end (more 8 (rest p)) b asked c 6 7 0 ws 0x9f000 4 pen_mark refl refl (on 6 (omega arith)) (shows 0x9f000 4 (omega arith))
      (store p f end (more 7 (rest p)) b asked c 7 8 0 _ 0x38000 4 (mark_of F1) refl refl (on 7 (omega arith)) (shows 0x38000 4 (omega arith))
      (store p f end (more 6 (rest p)) b asked c 8 9 0 _ 0x38004 4 (mark_of F2) refl refl (on 8 (omega arith)) (shows 0x38004 4 (omega arith))
      (store p f end (more 5 (rest p)) b asked c 9 10 0 _ 0x38008 4 (mark_of F3) refl refl (on 9 (omega arith)) (shows 0x38008 4 (omega arith))
      (store p f end (more 4 (rest p)) b asked c 10 11 0 _ 0x3800c 4 (mark_of F4) refl refl (on 10 (omega arith)) (shows 0x3800c 4 (omega arith))
      (store p f end (more 3 (rest p)) b asked c 11 12 0 _ 0x38010 4 (mark_of F5) refl refl (on 11 (omega arith)) (shows 0x38010 4 (omega arith))
      (store p f end (more 2 (rest p)) b asked c 12 13 0 _ 0x38014 4 (mark_of F6) refl refl (on 12 (omega arith)) (shows 0x38014 4 (omega arith))
      (store p f end (more 1 (rest p)) b asked c 13 14 0 _ 0x30000 8 0xffffffffffffffff refl refl (on 13 (omega arith)) (shows 0x30000 8 (omega arith))
      (later _))))))))

  -- 15: the default area is locked
  gate : ((ws : List Write) → Ends p (rest p) (at_place p b (locks_by p 2 0 0 0) ws c 15 0) end) → (ws : List Write) → Ends p (more 1 (rest p)) (at_place p b asked ws c 14 0) end
  unfolding boot_access boot_accesses
  gate later ws =
      let second = at_place p b (locks_by p 2 0 0 0) ws c 15 0 in
      goes p f end (rest p) (at_place p b asked ws c 14 0) second 14 0 (CfgWrite 0x9c 0x02) refl refl refl refl refl refl
      (makes p f (at_place p b asked ws c 14 0) second (CfgWrite 0x9c 0x02) refl (on 14 (omega arith))) (later ws)

-- register 9e names no more MiB than 8, or what register 50 has
size_most : (mib ext most : ℕ) → 8 ≤ most → ext ≤ most → tseg_size ext (bit_and (tseg_enabled mib) 7) ≤ most
size_most mib ext most eight more = by (mib == 1) (mib == 2) (mib == 8)
  where
    by : (a b c : Bool) → tseg_size ext (bit_and (if a then 1 else if b then 3 else if c then 5 else 7) 7) ≤ most
    by true b c = omega (arith, eight)
    by false true c = omega (arith, eight)
    by false false true = omega (arith, eight)
    by false false false = more

room_by : (p : Platform) (ext most : ℕ) → 8 ≤ most → ext ≤ most → most * 0x100000 + 0x800000 ≤ p.low_memory → HasRoom (locked p ext)
room_by p ext most eight more room = let size = size_most p.tseg_mib ext most eight more in omega (arith, size, room)

-- 16 and 17: TSEG is locked
module _ (p : Platform) (f : Facts p) (b : Block) (ws : List Write) where
  abbrev end_true : Bool → Stage
  end_true sized = end_by p true true sized (is_negotiable p.features)

  abbrev at : Locks → ℕ → State
  at l done = at_place p b l ws (fw_cfg_start p.features) done 0

  tail_end : (ext e : ℕ) → ext_count p.tseg_mib ≡ e → HasRoom (locked p ext) → Ends p 12 (at (locks_by p 2 0 0 ext) (place e 0)) (end_true true)
  unfolding tail_accesses
  tail_end ext e size room =
      let esmramc = tseg_enabled p.tseg_mib in
      let second = at (locks_by p 2 0 0 ext) (place e 0) in
      let third = at (locks_by p 2 0 (bit_and esmramc 7) ext) (place e 1) in
      let last = at (locked p ext) (place e 2) in
      goes p f (end_true true) 11 second third (place e 0) 0 (CfgWrite 0x9e esmramc) refl refl refl refl (tail_access p.tseg_mib e size 0 0) refl
      (makes p f second third (CfgWrite 0x9e esmramc) refl (tail_stage p.tseg_mib e size 0 0 Quiet))
      (goes p f (end_true true) 10 third last (place e 1) 0 (CfgWrite 0x9d 0x18) refl refl refl refl (tail_access p.tseg_mib e size 0 1) refl
      (makes p f third last (CfgWrite 0x9d 0x18) refl (tail_stage p.tseg_mib e size 1 0 Quiet))
      (requested p f (end_true true) b ws ext e size room (chosen_end p f b ws ext e size (is_negotiable p.features) refl)))

  -- 15a and 15b: a TSEG of 48 MiB is asked for, and looked at
  ext_end : (wide : Bool) → (p.tseg_mib == 48) ≡ wide → (has : Bool) → p.ext_tseg ≡ has → Ends p (rest p) (at (locks_by p 2 0 0 0) 15) (end_true (not wide || has))
  ext_end false is has h =
      let none : ext_count p.tseg_mib ≡ 0 = ap (λ (w : Bool). if w then 2 else 0) is in
      let low = f.memory in
      subst (λ (n : ℕ). Ends p n (at (locks_by p 2 0 0 0) 15) (end_true true)) (sym (ap (λ (n : ℕ). n + 12) none))
      (tail_end 0 0 none (room_by p 0 8 (omega arith) (omega arith) (omega (arith, low))))
  ext_end true is true h =
      let two : ext_count p.tseg_mib ≡ 2 = ap (λ (w : Bool). if w then 2 else 0) is in
      let low = f.room is in
      let fits : nat_le 0x4000000 p.low_memory ≡ true = grind (arith, nat_tests, low) in
      let first = at (locks_by p 2 0 0 0) 15 in
      let asked = at (locks_by p 2 0 0 0x30) 16 in
      let shown = at (locks_by p 2 0 0 0x30) 17 in
      subst (λ (n : ℕ). Ends p n first (end_true true)) (sym (ap (λ (n : ℕ). n + 12) two))
      (goes p f (end_true true) 13 first asked 15 0 (CfgWrite 0x50 0xff) refl refl refl refl (in_ext p.tseg_mib 0 15 (omega arith) (omega (arith, two))) refl
      (makes p f first asked (CfgWrite 0x50 0xff) (rw (h, fits) refl) (head_stage p.tseg_mib 15 0 Quiet (omega arith)))
      (goes p f (end_true true) 12 asked shown 16 0 (CfgRead 0x50) refl refl refl refl (in_ext p.tseg_mib 0 16 (omega arith) (omega (arith, two))) refl
      (makes p f asked shown (CfgRead 0x50) refl (ap (λ (mib : ℕ). stage_after mib (Value 0x30) (Boots 16 0)) (eqb-true p.tseg_mib 48 is)))
      (tail_end 0x30 2 two (room_by p 0x30 48 (omega arith) (omega arith) (omega (arith, low))))))
  ext_end true is false h =
      let two : ext_count p.tseg_mib ≡ 2 = ap (λ (w : Bool). if w then 2 else 0) is in
      let first = at (locks_by p 2 0 0 0) 15 in
      let asked = at (locks_by p 2 0 0 0) 16 in
      let shown = record (at (locks_by p 2 0 0 0) 17) { stage = Refused (NoExtTseg 0) } in
      subst (λ (n : ℕ). Ends p n first (end_true false)) (sym (ap (λ (n : ℕ). n + 12) two))
      (goes p f (end_true false) 13 first asked 15 0 (CfgWrite 0x50 0xff) refl refl refl refl (in_ext p.tseg_mib 0 15 (omega arith) (omega (arith, two))) refl
      (makes p f first asked (CfgWrite 0x50 0xff) (rw h refl) (head_stage p.tseg_mib 15 0 Quiet (omega arith)))
      (goes p f (end_true false) 12 asked shown 16 0 (CfgRead 0x50) refl refl refl refl (in_ext p.tseg_mib 0 16 (omega arith) (omega (arith, two))) refl
      (makes p f asked shown (CfgRead 0x50) refl (ap (λ (mib : ℕ). stage_after mib (Value 0) (Boots 16 0)) (eqb-true p.tseg_mib 48 is)))
      (ends_refused p 12 shown (NoExtTseg 0) refl)))

-- 5 and 6: whether the default area can be locked
module _ (p : Platform) (f : Facts p) (b : Block) where
  abbrev pub at_area : ℕ → ℕ → State
  at_area f_smbase done = at_place p b (locks_by p f_smbase 0 0 0) (image p) (fw_cfg_start p.features) done 0

  asks_area : (has_default : Bool) → p.default_smram ≡ has_default → record (made p f (CfgWrite 0x9c 0xff) (at_area 0 4)) { stage = Boots 5 0 } ≡ at_area (bit has_default) 5
  asks_area true is = rw is refl
  asks_area false is = rw is refl

  pub area_end : (has_default : Bool) → p.default_smram ≡ has_default → Ends p (more 11 (rest p)) (at_area 0 4) (end_by p true has_default (has_size p) (is_negotiable p.features))
  unfolding boot_access boot_accesses
  area_end true is =
      let end = end_by p true true (has_size p) (is_negotiable p.features) in
      goes p f end (more 10 (rest p)) (at_area 0 4) (at_area 1 5) 4 0 (CfgWrite 0x9c 0xff) refl refl refl refl refl refl
      (makes p f (at_area 0 4) (at_area 1 5) (CfgWrite 0x9c 0xff) (asks_area true is) (head_stage p.tseg_mib 4 0 Quiet (omega arith)))
      (goes p f end (more 9 (rest p)) (at_area 1 5) (at_area 1 6) 5 0 (CfgRead 0x9c) refl refl refl refl refl refl
      (makes p f (at_area 1 5) (at_area 1 6) (CfgRead 0x9c) refl (head_stage p.tseg_mib 5 0 (Value 1) (omega arith)))
      (marks p f end b (fw_cfg_start p.features) (gate p f end b (fw_cfg_start p.features) (λ ws. ext_end p f b ws (p.tseg_mib == 48) refl p.ext_tseg refl)) (image p)))
  area_end false is =
      let end = Refused (NoDefaultSmram 0) in
      let refused = record (at_area 0 6) { stage = Refused (NoDefaultSmram 0) } in
      goes p f end (more 10 (rest p)) (at_area 0 4) (at_area 0 5) 4 0 (CfgWrite 0x9c 0xff) refl refl refl refl refl refl
      (makes p f (at_area 0 4) (at_area 0 5) (CfgWrite 0x9c 0xff) (asks_area false is) (head_stage p.tseg_mib 4 0 Quiet (omega arith)))
      (goes p f end (more 9 (rest p)) (at_area 0 5) refused 5 0 (CfgRead 0x9c) refl refl refl refl refl refl
      (makes p f (at_area 0 5) refused (CfgRead 0x9c) refl (head_stage p.tseg_mib 5 0 (Value 0) (omega arith)))
      (ends_refused p (more 9 (rest p)) refused (NoDefaultSmram 0) refl))
