-- The worked runs are twins.
use Rattle.std.proofs.Common.{ℕ, zero, suc, ◌≡◌, ◌&&◌, ◌||◌, nat_lt, nat_le, Bool, true, false, cond, List, [], ◌∷◌, Option, Some, None, option_map, refl, arith}
use Rattle.std.specs.Prelude.{is_some}
use Rattle.std.proofs.lemmas.Bool.Decides.{nat_tests}
use Rattle.hp_model.specs.declared.accesses.Access.TheVariants.{Load, Store}
use Rattle.hp_model.specs.declared.accesses.Answer.TheVariants.{Value}
use Rattle.hp_model.specs.declared.entries.Event.TheVariants.{Do}
use Rattle.hp_model.specs.Cpu.{boot_cpus, cpus_start}
use Rattle.hp_model.specs.Block.{first_places}
use Rattle.hp_model.specs.Memory.{bytes_of, value_from}
use Rattle.hp_model.specs.View.{is_hole, is_locked, stored}
use Rattle.hp_model.specs.Interrupts.{hit_each}
use Rattle.hp_model.specs.SaveArea.{saved, saved_smbase, saved_rip}
use Rattle.hp_model.specs.FwCfg.{big_bytes, big_value, little_value, directory, listed}
use Rattle.hp_model.specs.Transfers.{bytes_stored, bytes_loaded, transfer}
use Rattle.hp_model.specs.Boot.{is_handed, boot_accesses, boot_access}
use Rattle.hp_model.specs.Labels.{label_with}
use Rattle.hp_model.specs.Image.{image, with_cells, with_tiles, with_releases}
use Rattle.hp_model.specs.SharedBytes.{layout_of}
use Rattle.hp_model.specs.Handlers.{label_of_mark}
use Rattle.hp_model.specs.State.{State, at}
use Rattle.hp_model.specs.Access.{same_access}
use Rattle.hp_model.specs.Firmware.{mark_at, label_at}
use Rattle.hp_model.specs.Step.{After, step}
use Rattle.hp_model.specs.Visible.{IsAlike}
use Rattle.hp_secrecy.specs.Shielded.{is_base, IsShielded, AreTwins, AreLocked}
use Rattle.hp_secrecy.specs.Worked.{two, entering, arrives, entered, arrived, handed_over, stored_outside, state_in, answer_in, after_events}
use Rattle.hp_secrecy.proofs.Steps.{inside_alike}

pub goes_entered : is_some entered ≡ true
unfolding boot_cpus cpus_start first_places bytes_of value_from is_hole hit_each saved big_bytes big_value little_value directory listed bytes_stored bytes_loaded transfer boot_accesses boot_access label_with image with_cells with_tiles with_releases label_of_mark step same_access mark_at label_at entering entered arrived
goes_entered = refl

pub goes_arrived : is_some arrived ≡ true
unfolding boot_cpus cpus_start first_places bytes_of value_from is_hole hit_each saved big_bytes big_value little_value directory listed bytes_stored bytes_loaded transfer boot_accesses boot_access label_with image with_cells with_tiles with_releases label_of_mark step same_access mark_at label_at entering entered arrived
goes_arrived = refl

-- the byte lies in TSEG
in_tseg : (x : ℕ) → (nat_le 0x7f00001 x && nat_lt x 0x7f00002) ≡ true → (nat_le 0x7f00000 x && nat_lt x 0x8000000) ≡ true
in_tseg x e = grind (arith, nat_tests)

tseg_byte : (area : Bool) (x : ℕ) → (nat_le 0x7f00001 x && nat_lt x 0x7f00002) ≡ true → (area || (nat_le 0x7f00000 x && nat_lt x 0x8000000)) ≡ true
tseg_byte true x e = refl
tseg_byte false x e = in_tseg x e

shielded_entered : IsShielded two (state_in entered)
unfolding boot_cpus cpus_start first_places bytes_of value_from is_hole hit_each saved big_bytes big_value little_value directory listed bytes_stored bytes_loaded transfer boot_accesses boot_access label_with image with_cells with_tiles with_releases label_of_mark step same_access mark_at label_at entering entered arrived
shielded_entered = record { handed = refl; f_smbase = refl; smram = refl; size = refl; low_memory = refl; based = based }
  where
    based : (k : ℕ) → (at (state_in entered) k).present ≡ true → is_base (layout_of two) (at (state_in entered) k).smbase ≡ true
    based zero e = refl
    based (suc zero) e = refl
    based (suc (suc k)) e = absurd cc

shielded_arrived : IsShielded two (state_in arrived)
unfolding boot_cpus cpus_start first_places bytes_of value_from is_hole hit_each saved big_bytes big_value little_value directory listed bytes_stored bytes_loaded transfer boot_accesses boot_access label_with image with_cells with_tiles with_releases label_of_mark step same_access mark_at label_at entering entered arrived
shielded_arrived = record { handed = refl; f_smbase = refl; smram = refl; size = refl; low_memory = refl; based = based }
  where
    based : (k : ℕ) → (at (state_in arrived) k).present ≡ true → is_base (layout_of two) (at (state_in arrived) k).smbase ≡ true
    based zero e = refl
    based (suc zero) e = refl
    based (suc (suc k)) e = absurd cc

handed_entered : is_handed (state_in entered).stage ≡ true
unfolding boot_cpus cpus_start first_places bytes_of value_from is_hole hit_each saved big_bytes big_value little_value directory listed bytes_stored bytes_loaded transfer boot_accesses boot_access label_with image with_cells with_tiles with_releases label_of_mark step same_access mark_at label_at entering entered arrived
handed_entered = refl

locked_entered : AreLocked (state_in entered).locks 0x7f00001 1
unfolding boot_cpus cpus_start first_places bytes_of value_from is_hole hit_each saved big_bytes big_value little_value directory listed bytes_stored bytes_loaded transfer boot_accesses boot_access label_with image with_cells with_tiles with_releases label_of_mark step same_access mark_at label_at entering entered arrived
locked_entered x e = tseg_byte (nat_le 0x30000 x && nat_lt x 0x50000) x e

-- the store is made inside
stored_alike : (o : Option State) → is_some (after_events two o (arrives ∷ [])) ≡ true → is_handed (state_in o).stage ≡ true → AreLocked (state_in o).locks 0x7f00001 1 → IsAlike (state_in (after_events two o (arrives ∷ []))) (state_in o)
stored_alike None goes handed locked = absurd cc
stored_alike (Some s) goes handed locked = by_step (step two s arrives) refl goes
  where
    by_step : (o : Option After) → step two s arrives ≡ o → is_some (option_map (λ a. a.state) o) ≡ true → IsAlike (state_in (option_map (λ a. a.state) o)) s
    by_step None is goes = absurd cc
    by_step (Some a) is goes = inside_alike two s 1 (Store 0x7f00001 1 1) a handed locked is

alike : IsAlike (state_in arrived) (state_in entered)
unfolding arrived
alike = stored_alike entered goes_arrived handed_entered locked_entered

pub twins : AreTwins two (state_in arrived) (state_in entered)
twins = record { first = shielded_arrived; second = shielded_entered; alike = alike }

-- processor 0 reads all ones in both; the relocated handler's next access is a step in one of them alone
pub reads_arrived : answer_in arrived (Do 0 (Load 0x7f00000 4)) ≡ Some (Value 0xffffffff)
unfolding boot_cpus cpus_start first_places bytes_of value_from is_hole hit_each saved big_bytes big_value little_value directory listed bytes_stored bytes_loaded transfer boot_accesses boot_access label_with image with_cells with_tiles with_releases label_of_mark step same_access mark_at label_at entering entered arrived
reads_arrived = refl

pub reads_entered : answer_in entered (Do 0 (Load 0x7f00000 4)) ≡ Some (Value 0xffffffff)
unfolding boot_cpus cpus_start first_places bytes_of value_from is_hole hit_each saved big_bytes big_value little_value directory listed bytes_stored bytes_loaded transfer boot_accesses boot_access label_with image with_cells with_tiles with_releases label_of_mark step same_access mark_at label_at entering entered arrived
reads_entered = refl

pub looks_arrived : answer_in arrived (Do 1 (Load 0x7f02001 1)) ≡ Some (Value 0)
unfolding boot_cpus cpus_start first_places bytes_of value_from is_hole hit_each saved big_bytes big_value little_value directory listed bytes_stored bytes_loaded transfer boot_accesses boot_access label_with image with_cells with_tiles with_releases label_of_mark step same_access mark_at label_at entering entered arrived
looks_arrived = refl

pub looks_entered : answer_in entered (Do 1 (Load 0x7f02001 1)) ≡ None
unfolding boot_cpus cpus_start first_places bytes_of value_from is_hole hit_each saved big_bytes big_value little_value directory listed bytes_stored bytes_loaded transfer boot_accesses boot_access label_with image with_cells with_tiles with_releases label_of_mark step same_access mark_at label_at entering entered arrived
looks_entered = refl

not_one : ◌≡◌ {A = ℕ} 1 0 → ⊥
not_one e = cc

-- a store outside locked memory is seen
pub goes_outside : is_some stored_outside ≡ true
unfolding boot_cpus cpus_start first_places bytes_of value_from is_hole hit_each saved big_bytes big_value little_value directory listed bytes_stored bytes_loaded transfer boot_accesses boot_access label_with image with_cells with_tiles with_releases label_of_mark step same_access mark_at label_at handed_over stored_outside
goes_outside = refl

pub seen_outside : IsAlike (state_in stored_outside) (state_in handed_over) → ⊥
unfolding boot_cpus cpus_start first_places bytes_of value_from is_hole hit_each saved big_bytes big_value little_value directory listed bytes_stored bytes_loaded transfer boot_accesses boot_access label_with image with_cells with_tiles with_releases label_of_mark step same_access mark_at label_at handed_over stored_outside
seen_outside h = not_one (h.memory 0x2000 refl)
