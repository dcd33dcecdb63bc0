-- Accesses 18 to 27: features, and the hand-over.
use Rattle.std.proofs.Common.{◌≡◌, ℕ, Bool, true, false, ◌+◌, ◌*◌, ◌%◌, ◌^◌, List, refl, ap, subst, ◌∙◌, arith}
use Rattle.std.specs.Prelude.{slice_index_or}
use Rattle.std.proofs.lemmas.Bool.{lt-ltb}
use Rattle.hp_model.specs.declared.platforms.Platform.{Platform}
use Rattle.hp_model.specs.declared.accesses.Access.TheVariants.{Load, In, Out, Nop}
use Rattle.hp_model.specs.declared.accesses.Answer.TheVariants.{Quiet, Value}
use Rattle.hp_model.specs.declared.outcomes.BootFact.TheVariants.{NotNegotiated}
use Rattle.hp_model.specs.Memory.{Write, byte_at, bytes_of}
use Rattle.hp_model.specs.View.{Locks, is_hole, loaded}
use Rattle.hp_model.specs.Block.{Block, bit}
use Rattle.hp_model.specs.Ich9.{ich9_start}
use Rattle.hp_model.specs.FwCfg.{FwCfg, fw_cfg_start, big_value, selected, advanced, dma_address, without_high}
use Rattle.hp_model.specs.Transfers.{ask, descriptor_at, Transferred, transfer}
use Rattle.hp_model.specs.Boot.{Stage, Boots, Refused, Handed, boot_access, ext_count, stage_after}
use Rattle.hp_model.specs.State.{State}
use Rattle.hp_model.specs.Firmware.{with_agreed}
use Rattle.hp_boot.specs.Booting.{tail_accesses}
use Rattle.hp_boot.specs.Ending.{is_negotiable}
use Rattle.hp_boot.proofs.Start.{Facts}
use Rattle.hp_boot.proofs.Open.{is_low, HasRoom, IsOpen, IsOpen-room, same_transfer}
use Rattle.hp_boot.proofs.Transfers.{bare, asks, got, requests, gave, first_low, first_high, second_low, first_read, agreed}
use Rattle.hp_boot.proofs.Going.{Ends, ends_now, ends_refused, made}
use Rattle.hp_boot.proofs.Places.{at_place, locked, end_by, goes, makes, store}
use Rattle.hp_boot.proofs.Tail.{place, tail_access, tail_stage}

-- 18 to 26: the features
module _ (p : Platform) (f : Facts p) (end : Stage) (b : Block) (ws : List Write) (ext e : ℕ) (size : ext_count p.tseg_mib ≡ e) (room : HasRoom (locked p ext)) where
  abbrev pub l : Locks
  l = locked p ext

  abbrev pub features : ℕ
  features = p.features

  abbrev pub first : FwCfg
  first = fw_cfg_start features

  abbrev pub second : FwCfg
  second = (got features ws).fw_cfg

  abbrev pub at : List Write → FwCfg → ℕ → ℕ → State
  at us c j supported = at_place p b l us c (place e j) supported

  abbrev pub chosen : FwCfg
  chosen = selected 0x20 (gave features ws).fw_cfg

  open_here : IsOpen l
  open_here = IsOpen-room l room

  open_bare : IsOpen bare
  open_bare = IsOpen-room bare (omega arith)

  -- the address that the write of its low half tells, its high half 0
  at_descriptor : (c : FwCfg) → c.high ≡ 0 → dma_address 0x00100000 c ≡ 0x1000
  unfolding bytes_of big_value
  at_descriptor c h = ap (λ (high : ℕ). high * 2 ^ 32 + 0x1000) h

  transfers : (c : FwCfg) (us : List Write) → c.high ≡ 0 → is_low (ask (descriptor_at bare us 0x1000) (without_high c)).move ≡ true →
      transfer l (dma_address 0x00100000 c) (without_high c) us ≡ transfer bare 0x1000 (without_high c) us
  transfers c us high low =
      ap (λ (x : ℕ). transfer l x (without_high c) us) (at_descriptor c high)
      ∙ same_transfer l bare open_here open_bare 0x1000 (without_high c) us (omega arith) low

  reads_back : loaded l false (byte_at (got features ws).writes) 0x1010 8 ≡ features
  reads_back = let shown : is_hole l false 0x1010 8 ≡ false = open_here 0x1010 8 (omega arith) in rw shown (first_read ws features f.features)

  is : (supported j : ℕ) → boot_access p.tseg_mib supported (place e j) ≡ slice_index_or (tail_accesses p.tseg_mib supported) j Nop
  is supported j = tail_access p.tseg_mib e size supported j

  -- what is left once features-ok is selected
  abbrev pub FromChoice : Type 0
  FromChoice = Ends p 2 (at (gave features ws).writes chosen 10 features) end

  pub requested : FromChoice → Ends p 10 (at ws first 2 0) end
  unfolding tail_accesses
  requested later =
      store p f end 9 b l first (place e 2) (place e 3) 0 ws 0x1000 8 0x080000000a002200 (is 0 2) refl (tail_stage p.tseg_mib e size 2 0 Quiet) (open_here 0x1000 8 (omega arith))
      (store p f end 8 b l first (place e 3) (place e 4) 0 _ 0x1008 8 0x1010000000000000 (is 0 3) refl (tail_stage p.tseg_mib e size 3 0 Quiet) (open_here 0x1008 8 (omega arith))
      (goes p f end 7 (at (asks ws) first 4 0) (at (got features ws).writes second 5 0) (place e 4) 0 (Out 0x518 4 0x00100000) refl refl refl refl (is 0 4) refl
      (makes p f (at (asks ws) first 4 0) (at (got features ws).writes second 5 0) (Out 0x518 4 0x00100000)
      (ap (λ (t : Transferred). at t.writes t.fw_cfg 5 0) (transfers first (asks ws) refl (first_low ws features))) (tail_stage p.tseg_mib e size 4 0 Quiet))
      (goes p f end 6 (at (got features ws).writes second 5 0) (at (got features ws).writes second 6 features) (place e 5) 0 (Load 0x1010 8) refl refl refl refl (is 0 5) refl
      (makes p f (at (got features ws).writes second 5 0) (at (got features ws).writes second 6 features) (Load 0x1010 8) refl
      (tail_stage p.tseg_mib e size 5 0 (Value (loaded l false (byte_at (got features ws).writes) 0x1010 8)) ∙ ap (Boots (place e 6)) reads_back))
      (store p f end 5 b l second (place e 6) (place e 7) features (got features ws).writes 0x1000 8 0x0800000018002100 (is features 6) refl (tail_stage p.tseg_mib e size 6 features Quiet) (open_here 0x1000 8 (omega arith))
      (store p f end 4 b l second (place e 7) (place e 8) features _ 0x1010 8 (features % 8) (is features 7) (lt-ltb (features % 8) (256 ^ 8) (omega arith)) (tail_stage p.tseg_mib e size 7 features Quiet) (open_here 0x1010 8 (omega arith))
      (goes p f end 3 (at (requests features ws) second 8 features) (at (gave features ws).writes (gave features ws).fw_cfg 9 features) (place e 8) features (Out 0x518 4 0x00100000) refl refl refl refl (is features 8) refl
      (makes p f (at (requests features ws) second 8 features) (at (gave features ws).writes (gave features ws).fw_cfg 9 features) (Out 0x518 4 0x00100000)
      (ap (λ (t : Transferred). at t.writes t.fw_cfg 9 features) (transfers second (requests features ws) (first_high ws features) (second_low ws features))) (tail_stage p.tseg_mib e size 8 features Quiet))
      (goes p f end 2 (at (gave features ws).writes (gave features ws).fw_cfg 9 features) (at (gave features ws).writes chosen 10 features) (place e 9) features (Out 0x510 2 0x20) refl refl refl refl (is features 9) refl
      (makes p f (at (gave features ws).writes (gave features ws).fw_cfg 9 features) (at (gave features ws).writes chosen 10 features) (Out 0x510 2 0x20) refl (tail_stage p.tseg_mib e size 9 features Quiet))
      later)))))))

-- 26 and 27: features-ok is looked at, and the machine is handed over
module _ (p : Platform) (f : Facts p) (b : Block) (ws : List Write) (ext e : ℕ) (size : ext_count p.tseg_mib ≡ e) where
  abbrev pub choice : State
  choice = at_place p b (locked p ext) (gave p.features ws).writes (selected 0x20 (gave p.features ws).fw_cfg) (place e 10) p.features

  -- the state after features-ok was read, by its value
  abbrev pub looked : ℕ → State
  looked value = record (with_agreed (record choice { fw_cfg = advanced 1 choice.fw_cfg })) { stage = stage_after p.tseg_mib (Value value) (Boots (place e 10) p.features) }

  abbrev pub over : State
  over = record (looked 1) { ich9 = record ich9_start { smi_en = 0x21 }; stage = Handed (p.features % 8) }

  all_of_them : p.features % 8 ≡ p.features
  all_of_them = let few = f.features in omega arith

  chooses : (negotiable : Bool) → is_negotiable p.features ≡ negotiable → made p f (In 0x511 1) choice ≡ looked (bit negotiable)
  chooses negotiable is = ap looked (agreed ws p.features f.features ∙ ap bit is)

  pub chosen_end : (negotiable : Bool) → is_negotiable p.features ≡ negotiable → Ends p 2 choice (end_by p true true true negotiable)
  unfolding tail_accesses
  chosen_end true is =
      let at_last : (looked 1).stage ≡ Boots (place e 11) p.features = tail_stage p.tseg_mib e size 10 p.features (Value 1) in
      goes p f (Handed p.features) 1 choice (looked 1) (place e 10) p.features (In 0x511 1) refl refl refl refl (tail_access p.tseg_mib e size p.features 10) refl (chooses true is)
      (goes p f (Handed p.features) 0 (looked 1) over (place e 11) p.features (Out 0x630 4 0x21) refl at_last refl refl (tail_access p.tseg_mib e size p.features 11) refl
      (makes p f (looked 1) over (Out 0x630 4 0x21) refl (ap (stage_after p.tseg_mib Quiet) at_last ∙ tail_stage p.tseg_mib e size 11 p.features Quiet))
      (subst (λ (g : Stage). Ends p 0 over g) (ap Handed all_of_them) (ends_now p over)))
  chosen_end false is =
      goes p f (Refused (NotNegotiated 0)) 1 choice (looked 0) (place e 10) p.features (In 0x511 1) refl refl refl refl (tail_access p.tseg_mib e size p.features 10) refl (chooses false is)
      (ends_refused p 1 (looked 0) (NotNegotiated 0) (tail_stage p.tseg_mib e size 10 p.features (Value 0)))
