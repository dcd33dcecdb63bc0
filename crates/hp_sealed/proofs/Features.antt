-- The features that the boot agrees on are all that the platform supports: what its two transfers and its last reads make of fw_cfg.
use Rattle.std.proofs.Common.{ℕ, zero, suc, ◌≡◌, ◌+◌, ◌*◌, ◌%◌, ◌<◌, ◌≤◌, ◌==◌, Bool, true, false, not, ◌&&◌, ◌||◌, nat_lt, nat_le, List, [], ◌∷◌, ◌++◌, length, Option, Some, None, refl, sym, ap, subst, ◌∙◌, arith, if◌then◌else◌}
use Rattle.std.specs.Prelude.{slice_index_or}
use Rattle.std.proofs.lemmas.Bool.Decides.{nat_tests}
use Rattle.hp_model.specs.declared.platforms.Platform.{Platform}
use Rattle.hp_model.specs.declared.accesses.Access.{Access}
use Rattle.hp_model.specs.declared.accesses.Access.TheVariants.{Load, Store, Out, In, CfgRead, CfgWrite, Nop}
use Rattle.hp_model.specs.Memory.{Write, byte_at, bytes_of, value_from, write_of}
use Rattle.hp_model.specs.View.{Locks, is_hidden, is_hole}
use Rattle.hp_model.specs.declared.outcomes.BootFact.TheVariants.{NotNegotiated}
use Rattle.hp_model.specs.Boot.{Stage, tseg_enabled, ext_count, boot_refusal, value_in, block_accesses, area_accesses, pen_accesses, mark_accesses, gate_accesses, ext_accesses, lock_accesses, feature_accesses, last_accesses, boot_accesses, boot_access}
use Rattle.hp_model.specs.Monarch.{Monarch}
use Rattle.hp_model.specs.State.{State}
use Rattle.hp_model.specs.Access.{answer_to, access_effect}
use Rattle.hp_model.specs.FwCfg.{FwCfg, fw_cfg_start, big_value, little_value, agrees, ok_byte, next_byte, selected, without_high, dma_address}
use Rattle.hp_model.specs.Transfers.{Descriptor, descriptor_of, Transferred, bytes_loaded, bytes_stored, ask, carried_out, transfer}
use Rattle.hp_model.specs.Platform.{tseg}
use Rattle.hp_sealed.specs.Left.{Sound, Locked}
use Rattle.hp_sealed.specs.Features.{first_descriptor, stores_bytes, supports, second_descriptor, after_first, after_second, AgreesAt, Agreeing}
use Rattle.hp_sealed.specs.Booting.{Booting}
use Rattle.hp_sealed.proofs.BootLocks.{locked_by, Each}
use Rattle.hp_sealed.proofs.Boots.{each_at, each_append, ext_length, boot_length}
use Rattle.hp_sealed.proofs.Places.{from_size}

-- below the default area nothing is locked
shown : (p : Platform) (l : Locks) (x : ℕ) → Sound p → Locked p l → x < 0x30000 → is_hidden l false x ≡ false
shown p l x fit locks small =
    let above = fit.above in
    let top = fit.top in
    let same = locks.low_memory in
    rw (locks.f_smbase, locks.smram, locks.esmramc, locks.low_memory, from_size p l.ext_tseg fit locks.ext_tseg) (below (tseg p) p.low_memory x (omega (arith, top)) above small)
  where
    below : (base top x : ℕ) → base ≤ top → 0x800000 ≤ base → x < 0x30000 → (nat_le top x || ((nat_le 0x30000 x && nat_lt x 0x50000) || (nat_le base x && nat_lt x top))) ≡ false
    below base top x less above small = grind (arith, nat_tests)

pub low_open : (p : Platform) (l : Locks) (a n : ℕ) → Sound p → Locked p l → a + n ≤ 0x30000 → is_hole l false a n ≡ false
unfolding is_hole
low_open p l a zero fit locks low = refl
low_open p l a (suc n) fit locks low = rw (shown p l a fit locks (omega (arith, low)), low_open p l (a + 1) n fit locks (omega (arith, low))) refl

-- bytes that nothing hides
bytes_from : (ℕ → ℕ) → ℕ → ℕ → List ℕ
bytes_from f a zero = []
bytes_from f a (suc n) = f a ∷ bytes_from f (a + 1) n

loads_bytes : (p : Platform) (l : Locks) (f : ℕ → ℕ) (a n : ℕ) → Sound p → Locked p l → a + n ≤ 0x30000 → bytes_loaded l f a n ≡ bytes_from f a n
unfolding bytes_loaded bytes_from value_from
loads_bytes p l f a zero fit locks low = refl
loads_bytes p l f a (suc n) fit locks low =
    let one : f a + 256 * 0 ≡ f a = omega arith in
    rw (low_open p l a 1 fit locks (omega (arith, low)), loads_bytes p l f (a + 1) n fit locks (omega (arith, low)), one) refl

stores_open : (p : Platform) (l : Locks) (bs : List ℕ) (a : ℕ) (ws : List Write) → Sound p → Locked p l → a + length bs ≤ 0x30000 → bytes_stored l a bs ws ≡ stores_bytes bs a ws
unfolding bytes_stored stores_bytes
stores_open p l [] a ws fit locks low = refl
stores_open p l (b ∷ bs) a ws fit locks low = rw (low_open p l a 1 fit locks (omega (arith, low))) (stores_open p l bs (a + 1) (write_of a 1 b ∷ ws) fit locks (omega (arith, low)))

first_read : (ws : List Write) → descriptor_of (bytes_from (byte_at (first_descriptor ws)) 0x1000 16) ≡ record { control = 0x0022000a; size = 8; address = 0x1010 }
unfolding bytes_from first_descriptor bytes_of big_value
first_read ws = refl

reads_supported : (F : ℕ) (ws : List Write) → F ≤ 7 → value_from (byte_at (supports F ws)) 0x1010 8 ≡ F
unfolding supports first_descriptor stores_bytes bytes_of value_from
reads_supported F ws small = omega (arith, small)

first_ask : Descriptor
first_ask = record { control = 0x0022000a; size = 8; address = 0x1010 }

opened : (p : Platform) (l : Locks) (f : FwCfg) (ws : List Write) → Sound p → Locked p l → transfer l 0x1000 f ws ≡ carried_out l 0x1000 (ask (descriptor_of (bytes_from (byte_at ws) 0x1000 16)) f) ws
unfolding transfer
opened p l f ws fit locks = rw (low_open p l 0x1000 16 fit locks (omega arith)) (ap (λ bs. carried_out l 0x1000 (ask (descriptor_of bs) f) ws) (loads_bytes p l (byte_at ws) 0x1000 16 fit locks (omega arith)))

carried_first : (p : Platform) (l : Locks) (F : ℕ) (ws : List Write) → Sound p → Locked p l → carried_out l 0x1000 (ask first_ask (fw_cfg_start F)) (first_descriptor ws) ≡ record { fw_cfg = after_first F; writes = supports F ws }
unfolding after_first supports bytes_of first_ask
carried_first p l F ws fit locks = rw (stores_open p l (bytes_of 8 F) 0x1010 (first_descriptor ws) fit locks (omega arith), low_open p l 0x1000 4 fit locks (omega arith)) refl

transfers_first : (p : Platform) (l : Locks) (F : ℕ) (ws : List Write) → Sound p → Locked p l → transfer l 0x1000 (fw_cfg_start F) (first_descriptor ws) ≡ record { fw_cfg = after_first F; writes = supports F ws }
unfolding first_ask
transfers_first p l F ws fit locks =
    opened p l (fw_cfg_start F) (first_descriptor ws) fit locks
    ∙ (ap (λ d. carried_out l 0x1000 (ask d (fw_cfg_start F)) (first_descriptor ws)) (first_read ws) ∙ carried_first p l F ws fit locks)

-- the second one asks for them
second_read : (G F : ℕ) (ws : List Write) → descriptor_of (bytes_from (byte_at (second_descriptor G F ws)) 0x1000 16) ≡ record { control = 0x00210018; size = 8; address = 0x1010 }
unfolding bytes_from second_descriptor supports first_descriptor stores_bytes bytes_of big_value
second_read G F ws = refl

requested_read : (G F : ℕ) (ws : List Write) → bytes_from (byte_at (second_descriptor G F ws)) 0x1010 8 ≡ bytes_of 8 G
unfolding bytes_from second_descriptor bytes_of
requested_read G F ws = refl

second_ask : Descriptor
second_ask = record { control = 0x00210018; size = 8; address = 0x1010 }

carried_second : (p : Platform) (l : Locks) (F G : ℕ) (ws : List Write) → Sound p → Locked p l → (carried_out l 0x1000 (ask second_ask (after_first F)) (second_descriptor G F ws)).fw_cfg ≡ after_second F G
unfolding after_first after_second bytes_of second_ask
carried_second p l F G ws fit locks = rw (loads_bytes p l (byte_at (second_descriptor G F ws)) 0x1010 8 fit locks (omega arith), requested_read G F ws) refl

transfers_second : (p : Platform) (l : Locks) (F G : ℕ) (ws : List Write) → Sound p → Locked p l → (transfer l 0x1000 (after_first F) (second_descriptor G F ws)).fw_cfg ≡ after_second F G
unfolding second_ask
transfers_second p l F G ws fit locks =
    ap (λ (x : Transferred). x.fw_cfg) (opened p l (after_first F) (second_descriptor G F ws) fit locks)
    ∙ (ap (λ d. (carried_out l 0x1000 (ask d (after_first F)) (second_descriptor G F ws)).fw_cfg) (second_read G F ws) ∙ carried_second p l F G ws fit locks)

-- an access of the boot, and what is known of fw_cfg after it
pub record Agrees (p : Platform) (v n : ℕ) (b : Access) : Type 0 where
  pub on : (s : State) → Booting p n s → Agreeing p n v s → boot_refusal p.tseg_mib n (value_in (answer_to false b s)) ≡ None
      → Agreeing p (n + 1) (if n == 20 + ext_count p.tseg_mib then value_in (answer_to false b s) else v) (access_effect p 0 false b s)

early : (p : Platform) (v n : ℕ) (b : Access) → n < 17 + ext_count p.tseg_mib → ((s : State) → (access_effect p 0 false b s).fw_cfg ≡ s.fw_cfg) → Agrees p v n b
early p v n b less same = record {
  on = λ s h a free. record {
    before = λ low. same s ∙ a.before (omega (arith, less));
    after = λ i is. subst (λ j. AgreesAt j p.features (if n == 20 + ext_count p.tseg_mib then value_in (answer_to false b s) else v) (access_effect p 0 false b s)) (first (ext_count p.tseg_mib) n i less is) (same s ∙ a.before (omega (arith, less)));
  };
}
  where
    first : (more n i : ℕ) → n < 17 + more → n + 1 ≡ 17 + more + i → 0 ≡ i
    first more n i less is = omega (arith, less, is)

late : (p : Platform) (v n i : ℕ) (b : Access) → n ≡ 17 + ext_count p.tseg_mib + i → ((s : State) → Locked p s.locks → AgreesAt i p.features v s → boot_refusal p.tseg_mib n (value_in (answer_to false b s)) ≡ None → AgreesAt (suc i) p.features (if i == 3 then value_in (answer_to false b s) else v) (access_effect p 0 false b s)) → Agrees p v n b
late p v n i b is on = record {
  on = λ s h a free.
      let next = on s (locked_by p n s (omega (arith, is)) h) (a.after i is) free in
      let moved : (n == 20 + ext_count p.tseg_mib) ≡ (i == 3) = same_test (ext_count p.tseg_mib) n i is in
      record {
        before = λ low. absurd (past (ext_count p.tseg_mib) n i low is);
        after = λ j at. subst (λ k. AgreesAt k p.features (if n == 20 + ext_count p.tseg_mib then value_in (answer_to false b s) else v) (access_effect p 0 false b s)) (following (ext_count p.tseg_mib) n i j is at)
            (subst (λ c. AgreesAt (suc i) p.features (if c then value_in (answer_to false b s) else v) (access_effect p 0 false b s)) (sym moved) next);
      };
}
  where
    past : (more n i : ℕ) → n + 1 ≤ 17 + more → n ≡ 17 + more + i → ⊥
    past more n i low is = omega (arith, low, is)

    following : (more n i j : ℕ) → n ≡ 17 + more + i → n + 1 ≡ 17 + more + j → suc i ≡ j
    following more n i j is at = omega (arith, is, at)

    same_test : (more n i : ℕ) → n ≡ 17 + more + i → (n == 20 + more) ≡ (i == 3)
    same_test more n i is = by_three (i == 3) refl
      where
        by_three : (c : Bool) → (i == 3) ≡ c → (n == 20 + more) ≡ c
        by_three true e = grind (arith, nat_tests)
        by_three false e = grind (arith, nat_tests)

-- what was agreed on is read at the last but one
settles_at : (f : ℕ) → f ≤ 7 → little_value (bytes_of 8 f) ≡ f
unfolding little_value bytes_of
settles_at f small = omega (arith, small)

refused_at : (mib value : ℕ) → boot_refusal mib (25 + ext_count mib) value ≡ None → value ≡ 1
refused_at mib value e = by_size (mib == 48) refl e
  where
    by_value : (c : Bool) → (value == 1) ≡ c → (if not c then Some (NotNegotiated value) else None) ≡ None → value ≡ 1
    by_value true f e = grind (arith, nat_tests)
    by_value false f e = absurd cc

    by_size : (c : Bool) → (mib == 48) ≡ c → boot_refusal mib (25 + ext_count mib) value ≡ None → value ≡ 1
    by_size true f e = by_value (value == 1) refl (sym (large f) ∙ e)
      where
        large : (mib == 48) ≡ true → boot_refusal mib (25 + ext_count mib) value ≡ (if not (value == 1) then Some (NotNegotiated value) else None)
        large f = rw f refl
    by_size false f e = by_value (value == 1) refl (sym (small f) ∙ e)
      where
        small : (mib == 48) ≡ false → boot_refusal mib (25 + ext_count mib) value ≡ (if not (value == 1) then Some (NotNegotiated value) else None)
        small f = rw f refl

negotiated_in : (f : ℕ) → f ≤ 7 → (selected 0x20 (after_second f f)).negotiated ≡ (if agrees f f then Some f else None)
unfolding after_second after_first
negotiated_in f small = rw (settles_at f small) refl

module _ (p : Platform) (fit : Sound p) (some : p.features ≤ 7) (v : ℕ) where
  row_0 : (n : ℕ) → n ≡ 17 + ext_count p.tseg_mib + 0 → Agrees p v n (Store 0x1000 8 0x080000000a002200)
  row_0 n is = late p v n 0 (Store 0x1000 8 0x080000000a002200) is (λ s locks a free. (a, (s.writes, rw (low_open p s.locks 0x1000 8 fit locks (omega arith)) refl)))

  row_1 : (n : ℕ) → n ≡ 17 + ext_count p.tseg_mib + 1 → Agrees p v n (Store 0x1008 8 0x1010000000000000)
  unfolding first_descriptor
  row_1 n is = late p v n 1 (Store 0x1008 8 0x1010000000000000) is (λ s locks a free. (a.0, (a.1.0, rw (low_open p s.locks 0x1008 8 fit locks (omega arith)) (ap (λ ws. write_of 0x1008 8 0x1010000000000000 ∷ ws) a.1.1))))

  transfer_1 : (s : State) (ws : List Write) → Locked p s.locks → s.fw_cfg ≡ fw_cfg_start p.features → s.writes ≡ first_descriptor ws → transfer s.locks (dma_address 0x00100000 s.fw_cfg) (without_high s.fw_cfg) s.writes ≡ record { fw_cfg = after_first p.features; writes = supports p.features ws }
  unfolding big_value bytes_of
  transfer_1 s ws locks f w = rw (f, w) (transfers_first p s.locks p.features ws fit locks)

  row_2 : (n : ℕ) → n ≡ 17 + ext_count p.tseg_mib + 2 → Agrees p v n (Out 0x518 4 0x00100000)
  row_2 n is = late p v n 2 (Out 0x518 4 0x00100000) is (λ s locks a free. let done = transfer_1 s a.1.0 locks a.0 a.1.1 in (ap (λ (x : Transferred). x.fw_cfg) done, (a.1.0, ap (λ (x : Transferred). x.writes) done)))

  row_3 : (n : ℕ) → n ≡ 17 + ext_count p.tseg_mib + 3 → Agrees p v n (Load 0x1010 8)
  row_3 n is = late p v n 3 (Load 0x1010 8) is (λ s locks a free. (rw (low_open p s.locks 0x1010 8 fit locks (omega arith), a.1.1) (reads_supported p.features a.1.0 some), a))

  row_4 : (n : ℕ) → n ≡ 17 + ext_count p.tseg_mib + 4 → Agrees p v n (Store 0x1000 8 0x0800000018002100)
  row_4 n is = late p v n 4 (Store 0x1000 8 0x0800000018002100) is (λ s locks a free. (a.0, (a.1.0, (a.1.1.0, rw (low_open p s.locks 0x1000 8 fit locks (omega arith)) (ap (λ ws. write_of 0x1000 8 0x0800000018002100 ∷ ws) a.1.1.1)))))

  row_5 : (n : ℕ) → n ≡ 17 + ext_count p.tseg_mib + 5 → Agrees p v n (Store 0x1010 8 (v % 8))
  unfolding second_descriptor
  row_5 n is = late p v n 5 (Store 0x1010 8 (v % 8)) is (λ s locks a free.
      let first = a.0 in
      let low : v % 8 ≡ p.features = omega (arith, first, some) in
      (a.1.0, (a.1.1.0, rw (low_open p s.locks 0x1010 8 fit locks (omega arith), low) (ap (λ ws. write_of 0x1010 8 p.features ∷ ws) a.1.1.1))))

  transfer_2 : (s : State) (ws : List Write) → Locked p s.locks → s.fw_cfg ≡ after_first p.features → s.writes ≡ second_descriptor p.features p.features ws → (transfer s.locks (dma_address 0x00100000 s.fw_cfg) (without_high s.fw_cfg) s.writes).fw_cfg ≡ after_second p.features p.features
  unfolding big_value bytes_of after_first
  transfer_2 s ws locks f w = rw (f, w) (transfers_second p s.locks p.features p.features ws fit locks)

  row_6 : (n : ℕ) → n ≡ 17 + ext_count p.tseg_mib + 6 → Agrees p v n (Out 0x518 4 0x00100000)
  row_6 n is = late p v n 6 (Out 0x518 4 0x00100000) is (λ s locks a free. transfer_2 s a.1.0 locks a.0 a.1.1)

  row_7 : (n : ℕ) → n ≡ 17 + ext_count p.tseg_mib + 7 → Agrees p v n (Out 0x510 2 0x20)
  row_7 n is = late p v n 7 (Out 0x510 2 0x20) is (λ s locks a free. ap (selected 0x20) a)

  -- the byte tells that the features were agreed on
  agreed_by : (s : State) → s.fw_cfg ≡ selected 0x20 (after_second p.features p.features) → next_byte s.fw_cfg ≡ 1 → s.fw_cfg.negotiated ≡ Some p.features
  unfolding after_second after_first
  agreed_by s f one = ap (λ (x : FwCfg). x.negotiated) f ∙ (negotiated_in p.features some ∙ by_agreed (agrees p.features p.features) (sym (byte (negotiated_in p.features some)) ∙ (sym (ap next_byte f) ∙ one)))
    where
      byte : {o : Option ℕ} → (selected 0x20 (after_second p.features p.features)).negotiated ≡ o → next_byte (selected 0x20 (after_second p.features p.features)) ≡ ok_byte o
      byte is = ap ok_byte is

      by_agreed : (c : Bool) → ok_byte (if c then Some p.features else None) ≡ 1 → (if c then Some p.features else None) ≡ Some p.features
      by_agreed true e = refl
      by_agreed false e = absurd cc

  row_8 : (n : ℕ) → n ≡ 17 + ext_count p.tseg_mib + 8 → Agrees p v n (In 0x511 1)
  row_8 n is = late p v n 8 (In 0x511 1) is (λ s locks a free. agreed_by s a (refused_at p.tseg_mib (next_byte s.fw_cfg) (subst (λ i. boot_refusal p.tseg_mib i (next_byte s.fw_cfg) ≡ None) (is ∙ later (ext_count p.tseg_mib)) free)))
    where
      later : (more : ℕ) → 17 + more + 8 ≡ 25 + more
      later more = omega arith

  row_9 : (n : ℕ) → n ≡ 17 + ext_count p.tseg_mib + 9 → Agrees p v n (Out 0x630 4 0x21)
  row_9 n is = late p v n 9 (Out 0x630 4 0x21) is (λ s locks a free. a)

  -- all accesses
  block_agree : Each (Agrees p v) 0 block_accesses
  block_agree = (early p v 0 (Out 0xcd8 4 0) (omega arith) (λ s. refl), (early p v 1 (Out 0xcd8 4 0) (omega arith) (λ s. refl), (early p v 2 (Out 0xcdd 1 0) (omega arith) (λ s. refl), (early p v 3 (In 0xcd8 4) (omega arith) (λ s. refl), tt))))

  area_agree : Each (Agrees p v) 4 area_accesses
  area_agree = (early p v 4 (CfgWrite 0x9c 0xff) (omega arith) (λ s. refl), (early p v 5 (CfgRead 0x9c) (omega arith) (λ s. refl), tt))

  pen_agree : Each (Agrees p v) 6 pen_accesses
  pen_agree = (early p v 6 (Store 0x9f000 4 0x4e4550) (omega arith) (λ s. refl), tt)

  mark_agree : Each (Agrees p v) 7 mark_accesses
  mark_agree = (early p v 7 (Store 0x38000 4 0x53000001) (omega arith) (λ s. refl), (early p v 8 (Store 0x38004 4 0x53000002) (omega arith) (λ s. refl), (early p v 9 (Store 0x38008 4 0x53000003) (omega arith) (λ s. refl), (early p v 10 (Store 0x3800c 4 0x53000004) (omega arith) (λ s. refl), (early p v 11 (Store 0x38010 4 0x53000005) (omega arith) (λ s. refl), (early p v 12 (Store 0x38014 4 0x53000006) (omega arith) (λ s. refl), tt))))))

  gate_agree : Each (Agrees p v) 13 gate_accesses
  gate_agree = (early p v 13 (Store 0x30000 8 0xffffffffffffffff) (omega arith) (λ s. refl), (early p v 14 (CfgWrite 0x9c 0x02) (omega arith) (λ s. refl), tt))

  ext_agree : Each (Agrees p v) 15 (ext_accesses p.tseg_mib)
  ext_agree = by_size (p.tseg_mib == 48)
    where
      by_size : (b : Bool) → Each (Agrees p v) 15 (if b then CfgWrite 0x50 0xff ∷ CfgRead 0x50 ∷ [] else [])
      by_size true = (early p v 15 (CfgWrite 0x50 0xff) (omega arith) (λ s. refl), (early p v 16 (CfgRead 0x50) (omega arith) (λ s. refl), tt))
      by_size false = tt

  lock_agree : Each (Agrees p v) (15 + ext_count p.tseg_mib) (lock_accesses p.tseg_mib)
  lock_agree = (early p v (15 + ext_count p.tseg_mib) (CfgWrite 0x9e (tseg_enabled p.tseg_mib)) (omega arith) (λ s. refl), (early p v (suc (15 + ext_count p.tseg_mib)) (CfgWrite 0x9d 0x18) (omega arith) (λ s. refl), tt))

  feature_agree : (n : ℕ) → n ≡ 17 + ext_count p.tseg_mib → Each (Agrees p v) n (feature_accesses v ++ last_accesses)
  feature_agree n is = (
    row_0 n (omega (arith, is)),
    (
      row_1 (suc n) (omega (arith, is)),
      (
        row_2 (suc (suc n)) (omega (arith, is)),
        (
          row_3 (suc (suc (suc n))) (omega (arith, is)),
          (
            row_4 (suc (suc (suc (suc n)))) (omega (arith, is)),
            (
              row_5 (suc (suc (suc (suc (suc n))))) (omega (arith, is)),
              (row_6 (suc (suc (suc (suc (suc (suc n)))))) (omega (arith, is)), (row_7 (suc (suc (suc (suc (suc (suc (suc n))))))) (omega (arith, is)), (row_8 (suc (suc (suc (suc (suc (suc (suc (suc n)))))))) (omega (arith, is)), (row_9 (suc (suc (suc (suc (suc (suc (suc (suc (suc n))))))))) (omega (arith, is)), tt)))),
            ),
          ),
        ),
      ),
    ),
  )

  all_agree : Each (Agrees p v) 0 (boot_accesses p.tseg_mib v)
  unfolding boot_accesses
  all_agree =
      let features = feature_accesses v ++ last_accesses in
      let locks = lock_accesses p.tseg_mib ++ features in
      let ext = ext_accesses p.tseg_mib ++ locks in
      let gates = gate_accesses ++ ext in
      let marks = mark_accesses ++ gates in
      let pen = pen_accesses ++ marks in
      let size = ext_length p.tseg_mib in
      each_append (Agrees p v) 0 block_accesses (area_accesses ++ pen) block_agree
      (each_append (Agrees p v) 4 area_accesses pen area_agree
      (each_append (Agrees p v) 6 pen_accesses marks pen_agree
      (each_append (Agrees p v) 7 mark_accesses gates mark_agree
      (each_append (Agrees p v) 13 gate_accesses ext gate_agree
      (each_append (Agrees p v) 15 (ext_accesses p.tseg_mib) locks ext_agree
      (subst (λ i. Each (Agrees p v) (15 + i) locks) (sym size)
      (each_append (Agrees p v) (15 + ext_count p.tseg_mib) (lock_accesses p.tseg_mib) features lock_agree
      (feature_agree (15 + ext_count p.tseg_mib + 2) (omega arith)))))))))

pub agree : (p : Platform) → Sound p → (v n : ℕ) → n < 27 + ext_count p.tseg_mib → Agrees p v n (boot_access p.tseg_mib v n)
unfolding boot_access
agree p fit v n less =
    let e : 0 + n ≡ n = omega arith in
    let size = boot_length p.tseg_mib v in
    subst (λ i. Agrees p v i (slice_index_or (boot_accesses p.tseg_mib v) n Nop)) e (each_at (Agrees p v) 0 n (boot_accesses p.tseg_mib v) (omega (arith, less, size)) (all_agree p fit fit.features v))

-- the rest of the state is of no matter
pub agrees_still : (i f v : ℕ) (u : State) (r : Monarch) (g : Stage) (d : Bool) → AgreesAt i f v u → AgreesAt i f v (record u { monarch = r; stage = g; disturbed = d })
agrees_still zero f v u r g d h = h
agrees_still (suc zero) f v u r g d h = h
agrees_still (suc (suc zero)) f v u r g d h = h
agrees_still (suc (suc (suc zero))) f v u r g d h = h
agrees_still (suc (suc (suc (suc zero)))) f v u r g d h = h
agrees_still (suc (suc (suc (suc (suc zero))))) f v u r g d h = h
agrees_still (suc (suc (suc (suc (suc (suc zero)))))) f v u r g d h = h
agrees_still (suc (suc (suc (suc (suc (suc (suc zero))))))) f v u r g d h = h
agrees_still (suc (suc (suc (suc (suc (suc (suc (suc zero)))))))) f v u r g d h = h
agrees_still (suc (suc (suc (suc (suc (suc (suc (suc (suc n))))))))) f v u r g d h = h
