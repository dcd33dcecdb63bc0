-- Accesses 1 to 4: the register block, and so the whole boot.
use Rattle.std.proofs.Common.{◌≡◌, ℕ, Bool, true, false, ◌&&◌, not, List, Option, Some, None, refl, ap, subst, ◌∙◌, arith, if◌then◌else◌}
use Rattle.std.proofs.lemmas.Bool.{cond_both, ne_eqb}
use Rattle.hp_model.specs.declared.platforms.Platform.{Platform}
use Rattle.hp_model.specs.declared.accesses.Access.TheVariants.{In, Out}
use Rattle.hp_model.specs.declared.accesses.Answer.TheVariants.{Quiet, Value}
use Rattle.hp_model.specs.declared.outcomes.BootFact.TheVariants.{NotModern}
use Rattle.hp_model.specs.View.{locks_start}
use Rattle.hp_model.specs.Block.{Block, slots_from, block_start, block_write, block_read, cut, is_selected, found_from}
use Rattle.hp_model.specs.FwCfg.{fw_cfg_start}
use Rattle.hp_model.specs.Boot.{Stage, Boots, Refused, boot_accesses, boot_access, stage_after}
use Rattle.hp_model.specs.Image.{image}
use Rattle.hp_model.specs.State.{State, start}
use Rattle.hp_model.specs.Ports.{write_block}
use Rattle.hp_model.specs.Firmware.{with_agreed}
use Rattle.hp_model.specs.Platform.{IsFit}
use Rattle.hp_model.specs.Schedule.{boot_turns, booted, scene_start}
use Rattle.hp_model.specs.Voices.{Voice}
use Rattle.hp_boot.specs.Ending.{has_size, is_negotiable, legacy_value, end_of}
use Rattle.hp_boot.proofs.Start.{Facts, facts, no_event, legacy_shows}
use Rattle.hp_boot.proofs.Going.{Ends, ends_refused, made}
use Rattle.hp_boot.proofs.Places.{at_place, end_by, more, rest, goes, makes}
use Rattle.hp_boot.proofs.Tail.{head_by, head_stage}
use Rattle.hp_boot.proofs.Area.{area_end}

-- 1 to 3: the register block, modern where the platform has that form
abbrev block_by : Platform → Bool → Block
block_by p modern = record (block_start p) { modern = modern }

-- a write that leaves the slots ejects none
no_eject : (e : Bool) (k : ℕ) → (if e && not e then Some k else None) ≡ None
no_eject true k = refl
no_eject false k = refl

module _ (p : Platform) where
  written : (modern : Bool) → p.modern ≡ modern → block_write (block_start p) 0 4 0 ≡ block_by p modern
  written true is = rw is refl
  written false is = rw is refl

  written_again : (modern : Bool) → p.modern ≡ modern → block_write (block_by p modern) 0 4 0 ≡ block_by p modern
  written_again true is = refl
  written_again false is = rw is refl

  command_zero : (modern : Bool) → p.modern ≡ modern → block_write (block_by p modern) 5 1 0 ≡ block_by p modern
  command_zero true is =
      cond_both (not (is_selected (block_by p true))) _ _ (λ (b : Block). b ≡ block_by p true)
      (λ e. refl)
      (λ e. ap (λ (o : Option ℕ). record (block_by p true) { selector = found_from 0 (slots_from 0 p.apic p.boot) o }) (no_event 0 p.apic p.boot))
  command_zero false is = rw is refl

  read : (modern : Bool) → p.modern ≡ modern → block_read (block_by p modern) 0 4 ≡ (if modern then 0 else legacy_value p)
  read true is = cond_both (not (is_selected (block_by p true))) _ _ (λ (v : ℕ). cut 4 v ≡ 0) (λ e. refl) (λ e. refl)
  read false is = refl

write_leaves : (s : State) (d : Block) (offset width value : ℕ) → block_write s.block offset width value ≡ d → d.slots ≡ s.block.slots →
    write_block offset width value s ≡ record s { block = d }
write_leaves s d offset width value writes slots = rw (writes, slots, no_eject) refl

module _ (p : Platform) (f : Facts p) (end : Stage) (modern : Bool) (is : p.modern ≡ modern) where
  blocks : Ends p (more 12 (rest p)) (at_place p (block_by p modern) (locks_start p) (image p) (fw_cfg_start p.features) 3 0) end → Ends p (more 15 (rest p)) (start p) end
  unfolding boot_access boot_accesses
  blocks later =
      let at : Block → ℕ → State = λ (b : Block) (done : ℕ). at_place p b (locks_start p) (image p) (fw_cfg_start p.features) done 0 in
      let b = block_by p modern in
      let stage : ℕ → State → State = λ (done : ℕ) (s : State). record (with_agreed s) { stage = Boots done 0; disturbed = false } in
      goes p f end (more 14 (rest p)) (start p) (at b 1) 0 0 (Out 0xcd8 4 0) refl refl refl refl refl refl
      (makes p f (start p) (at b 1) (Out 0xcd8 4 0) (ap (stage 1) (write_leaves (start p) b 0 4 0 (written p modern is) refl)) (head_stage p.tseg_mib 0 0 Quiet (omega arith)))
      (goes p f end (more 13 (rest p)) (at b 1) (at b 2) 1 0 (Out 0xcd8 4 0) refl refl refl refl refl refl
      (makes p f (at b 1) (at b 2) (Out 0xcd8 4 0) (ap (stage 2) (write_leaves (at b 1) b 0 4 0 (written_again p modern is) refl)) (head_stage p.tseg_mib 1 0 Quiet (omega arith)))
      (goes p f end (more 12 (rest p)) (at b 2) (at b 3) 2 0 (Out 0xcdd 1 0) refl refl refl refl refl refl
      (makes p f (at b 2) (at b 3) (Out 0xcdd 1 0) (ap (stage 3) (write_leaves (at b 2) b 5 1 0 (command_zero p modern is) refl)) (head_stage p.tseg_mib 2 0 Quiet (omega arith)))
      later))

-- 4: whether the register block is modern
module _ (p : Platform) (f : Facts p) where
  abbrev at_form : Bool → ℕ → State
  at_form modern done = at_place p (block_by p modern) (locks_start p) (image p) (fw_cfg_start p.features) done 0

  -- the state after 4 accesses, by what the last of them read
  abbrev shown_form : Bool → ℕ → State
  shown_form modern value = record (at_form modern 4) { stage = stage_after p.tseg_mib (Value value) (Boots 3 0) }

  reads_form : (modern : Bool) → p.modern ≡ modern → made p f (In 0xcd8 4) (at_form modern 3) ≡ shown_form modern (if modern then 0 else legacy_value p)
  reads_form modern is = ap (shown_form modern) (read p modern is)

  modern_goes : stage_after p.tseg_mib (Value 0) (Boots 3 0) ≡ Boots 4 0
  modern_goes = head_stage p.tseg_mib 3 0 (Value 0) (omega arith)

  legacy_refuses : stage_after p.tseg_mib (Value (legacy_value p)) (Boots 3 0) ≡ Refused (NotModern (legacy_value p))
  legacy_refuses =
      head_stage p.tseg_mib 3 0 (Value (legacy_value p)) (omega arith)
      ∙ ap (λ (none : Bool). head_by (if not none then Some (NotModern (legacy_value p)) else None) 3 0) (ne_eqb (legacy_value p) 0 (legacy_shows p f))

  form_end : (modern : Bool) → p.modern ≡ modern → Ends p (more 12 (rest p)) (at_form modern 3) (end_by p modern p.default_smram (has_size p) (is_negotiable p.features))
  unfolding boot_access boot_accesses
  form_end true is =
      goes p f (end_by p true p.default_smram (has_size p) (is_negotiable p.features)) (more 11 (rest p)) (at_form true 3) (at_form true 4) 3 0 (In 0xcd8 4) refl refl refl refl refl refl
      (reads_form true is ∙ ap (λ (g : Stage). record (at_form true 4) { stage = g }) modern_goes)
      (area_end p f (block_by p true) p.default_smram refl)
  form_end false is =
      let refused = record (at_form false 4) { stage = Refused (NotModern (legacy_value p)) } in
      goes p f (Refused (NotModern (legacy_value p))) (more 11 (rest p)) (at_form false 3) refused 3 0 (In 0xcd8 4) refl refl refl refl refl refl
      (reads_form false is ∙ ap (λ (g : Stage). record (at_form false 4) { stage = g }) legacy_refuses)
      (ends_refused p (more 11 (rest p)) refused (NotModern (legacy_value p)) refl)

  pub boot_end : Ends p (boot_turns p) (start p) (end_of p)
  boot_end =
      let turns : more 15 (rest p) ≡ boot_turns p = omega arith in
      subst (λ (n : ℕ). Ends p n (start p) (end_of p)) turns (blocks p f (end_of p) p.modern refl (form_end p.modern refl))

pub boot_stage : (p : Platform) (vs : List Voice) → IsFit p → (booted p vs).scene.state.stage ≡ end_of p
unfolding booted
boot_stage p vs fit = boot_end p (facts p fit) (scene_start p vs) refl
