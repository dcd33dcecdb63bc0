-- What is read as a script step is spelled as its access.
use Rattle.std.proofs.Common.{◌≡◌, ℕ, ◌*◌, ◌^◌, ◌<◌, nat_lt, List, [], ◌∷◌, ◌++◌, codes, Option, Some, None, option_map, refl, sym, subst, ◌↔◌}
use Rattle.std.proofs.lemmas.Bool.{lt-ltb, and_from}
use Rattle.std.proofs.lemmas.Option.{none-some, same_Some, option_and_then_some}
use Rattle.hp_model.specs.declared.accesses.Access.{Access}
use Rattle.hp_model.specs.declared.accesses.Access.TheVariants.{Load, Store, Swap, In, Out, CfgRead, CfgWrite, Icr, Halt, Nop}
use Rattle.hp_model.specs.Access.{is_memory_width, is_port_width}
use Rattle.hp_config.specs.Script.{past, one, two, three, memory_width, port_width, load_step, store_step, in_step, out_step, end_step, swap_step, read_step, write_step, icr_step, row, script_step}
use Rattle.hp_config.specs.Spelling.{script_text, IsSpelled}
use Rattle.hp_config.proofs.Groups.{mapped, past_is, IsOne, one_is, IsTwo, two_is, IsThree, three_is}
use Rattle.hp_config.proofs.StepText.{IsMemoryGlyph, memory_is, IsPortGlyph, port_is, reads_spelled}

spelled_load : (c w addr : ℕ) (t : List ℕ) → IsMemoryGlyph c w → IsOne 8 addr t → IsSpelled (codes "load " ++ (c ∷ t)) (Load addr w)
unfolding script_text
spelled_load c w addr t g n = record {
  normal = g.known;
  fields = lt-ltb addr (2 ^ 32) n.below;
  spelled = rw (n.spelled, g.glyph) refl;
}

load_is : (t : List ℕ) (a : Access) → load_step t ≡ Some a → IsSpelled (codes "load " ++ t) a
load_is [] a e = absurd (none-some a e)
load_is (c ∷ t) a e =
    option_and_then_some (λ w. option_map (λ addr. Load addr w) (one 8 t)) (memory_width c) a e
    (λ w wide read. mapped (λ addr. Load addr w) (one 8 t) a read
    (λ addr found same. subst (IsSpelled (codes "load " ++ (c ∷ t))) same (spelled_load c w addr t (memory_is c w wide) (one_is 8 addr t found))))

spelled_store : (c w addr value : ℕ) (t : List ℕ) → IsMemoryGlyph c w → IsTwo 8 (2 * w) addr value t → IsSpelled (codes "store " ++ (c ∷ t)) (Store addr w value)
unfolding script_text
spelled_store c w addr value t g n =
    let small : value < 256 ^ w = rw (← g.power) n.last in
    record {
      normal = and_from (is_memory_width w) (nat_lt value (256 ^ w)) g.known (lt-ltb value (256 ^ w) small);
      fields = lt-ltb addr (2 ^ 32) n.first;
      spelled = rw (n.spelled, g.glyph) refl;
    }

store_is : (t : List ℕ) (a : Access) → store_step t ≡ Some a → IsSpelled (codes "store " ++ t) a
store_is [] a e = absurd (none-some a e)
store_is (c ∷ t) a e =
    option_and_then_some (λ w. option_map (λ p. Store p.0 w p.1) (two 8 (2 * w) t)) (memory_width c) a e
    (λ w wide read. mapped (λ p. Store p.0 w p.1) (two 8 (2 * w) t) a read
    (λ p found same. subst (IsSpelled (codes "store " ++ (c ∷ t))) same (spelled_store c w p.0 p.1 t (memory_is c w wide) (two_is 8 (2 * w) p.0 p.1 t found))))

spelled_swap : (addr expected desired : ℕ) (t : List ℕ) → IsThree 8 16 16 addr expected desired t → IsSpelled (codes "cas" ++ t) (Swap addr expected desired)
unfolding script_text
spelled_swap addr expected desired t n = record {
  normal = refl;
  fields = and_from (nat_lt addr (2 ^ 32)) _ (lt-ltb addr (2 ^ 32) n.first)
      (and_from (nat_lt expected (2 ^ 64)) (nat_lt desired (2 ^ 64)) (lt-ltb expected (2 ^ 64) n.next) (lt-ltb desired (2 ^ 64) n.last));
  spelled = rw n.spelled refl;
}

swap_is : (t : List ℕ) (a : Access) → swap_step t ≡ Some a → IsSpelled (codes "cas" ++ t) a
swap_is t a e =
    mapped (λ p. Swap p.0 p.1 p.2) (three 8 16 16 t) a e
    (λ p found same. subst (IsSpelled (codes "cas" ++ t)) same (spelled_swap p.0 p.1 p.2 t (three_is 8 16 16 p.0 p.1 p.2 t found)))

spelled_in : (c w port : ℕ) (t : List ℕ) → IsPortGlyph c w → IsOne 4 port t → IsSpelled (codes "in " ++ (c ∷ t)) (In port w)
unfolding script_text
spelled_in c w port t g n = record {
  normal = g.known;
  fields = lt-ltb port (2 ^ 16) n.below;
  spelled = rw (n.spelled, g.glyph) refl;
}

in_is : (t : List ℕ) (a : Access) → in_step t ≡ Some a → IsSpelled (codes "in " ++ t) a
in_is [] a e = absurd (none-some a e)
in_is (c ∷ t) a e =
    option_and_then_some (λ w. option_map (λ port. In port w) (one 4 t)) (port_width c) a e
    (λ w wide read. mapped (λ port. In port w) (one 4 t) a read
    (λ port found same. subst (IsSpelled (codes "in " ++ (c ∷ t))) same (spelled_in c w port t (port_is c w wide) (one_is 4 port t found))))

spelled_out : (c w port value : ℕ) (t : List ℕ) → IsPortGlyph c w → IsTwo 4 (2 * w) port value t → IsSpelled (codes "out " ++ (c ∷ t)) (Out port w value)
unfolding script_text
spelled_out c w port value t g n =
    let small : value < 256 ^ w = rw (← g.power) n.last in
    record {
      normal = and_from (is_port_width w) (nat_lt value (256 ^ w)) g.known (lt-ltb value (256 ^ w) small);
      fields = lt-ltb port (2 ^ 16) n.first;
      spelled = rw (n.spelled, g.glyph) refl;
    }

out_is : (t : List ℕ) (a : Access) → out_step t ≡ Some a → IsSpelled (codes "out " ++ t) a
out_is [] a e = absurd (none-some a e)
out_is (c ∷ t) a e =
    option_and_then_some (λ w. option_map (λ p. Out p.0 w p.1) (two 4 (2 * w) t)) (port_width c) a e
    (λ w wide read. mapped (λ p. Out p.0 w p.1) (two 4 (2 * w) t) a read
    (λ p found same. subst (IsSpelled (codes "out " ++ (c ∷ t))) same (spelled_out c w p.0 p.1 t (port_is c w wide) (two_is 4 (2 * w) p.0 p.1 t found))))

spelled_read : (reg : ℕ) (t : List ℕ) → IsOne 2 reg t → IsSpelled (codes "cfgr" ++ t) (CfgRead reg)
unfolding script_text
spelled_read reg t n = record { normal = refl; fields = lt-ltb reg (2 ^ 8) n.below; spelled = rw n.spelled refl }

read_is : (t : List ℕ) (a : Access) → read_step t ≡ Some a → IsSpelled (codes "cfgr" ++ t) a
read_is t a e =
    mapped (λ reg. CfgRead reg) (one 2 t) a e
    (λ reg found same. subst (IsSpelled (codes "cfgr" ++ t)) same (spelled_read reg t (one_is 2 reg t found)))

spelled_write : (reg value : ℕ) (t : List ℕ) → IsTwo 2 2 reg value t → IsSpelled (codes "cfgw" ++ t) (CfgWrite reg value)
unfolding script_text
spelled_write reg value t n = record {
  normal = refl;
  fields = and_from (nat_lt reg (2 ^ 8)) (nat_lt value (2 ^ 8)) (lt-ltb reg (2 ^ 8) n.first) (lt-ltb value (2 ^ 8) n.last);
  spelled = rw n.spelled refl;
}

write_is : (t : List ℕ) (a : Access) → write_step t ≡ Some a → IsSpelled (codes "cfgw" ++ t) a
write_is t a e =
    mapped (λ p. CfgWrite p.0 p.1) (two 2 2 t) a e
    (λ p found same. subst (IsSpelled (codes "cfgw" ++ t)) same (spelled_write p.0 p.1 t (two_is 2 2 p.0 p.1 t found)))

spelled_icr : (high low : ℕ) (t : List ℕ) → IsTwo 8 8 high low t → IsSpelled (codes "icr" ++ t) (Icr high low)
unfolding script_text
spelled_icr high low t n = record {
  normal = refl;
  fields = and_from (nat_lt high (2 ^ 32)) (nat_lt low (2 ^ 32)) (lt-ltb high (2 ^ 32) n.first) (lt-ltb low (2 ^ 32) n.last);
  spelled = rw n.spelled refl;
}

icr_is : (t : List ℕ) (a : Access) → icr_step t ≡ Some a → IsSpelled (codes "icr" ++ t) a
icr_is t a e =
    mapped (λ p. Icr p.0 p.1) (two 8 8 t) a e
    (λ p found same. subst (IsSpelled (codes "icr" ++ t)) same (spelled_icr p.0 p.1 t (two_is 8 8 p.0 p.1 t found)))

halt_is : (t : List ℕ) (a : Access) → end_step Halt t ≡ Some a → IsSpelled (codes "halt" ++ t) a
unfolding script_text
halt_is [] a e = subst (IsSpelled (codes "halt" ++ [])) (same_Some Halt a e) (record { normal = refl; fields = refl; spelled = refl })
halt_is (c ∷ t) a e = absurd (none-some a e)

nop_is : (t : List ℕ) (a : Access) → end_step Nop t ≡ Some a → IsSpelled (codes "nop" ++ t) a
unfolding script_text
nop_is [] a e = subst (IsSpelled (codes "nop" ++ [])) (same_Some Nop a e) (record { normal = refl; fields = refl; spelled = refl })
nop_is (c ∷ t) a e = absurd (none-some a e)

-- a row was read, or one after it
read_row : (word t : List ℕ) (step : List ℕ → Option Access) (other : Option Access) (a : Access) → row (past word t) step other ≡ Some a
    → ((rest : List ℕ) → step rest ≡ Some a → IsSpelled (word ++ rest) a) → (other ≡ Some a → IsSpelled t a) → IsSpelled t a
read_row word t step other a e here later = by (past word t) refl e
  where
    by : (p : Option (List ℕ)) → past word t ≡ p → row p step other ≡ Some a → IsSpelled t a
    by None is e = later e
    by (Some rest) is e = subst (λ u. IsSpelled u a) (sym (past_is word t rest is)) (here rest e)

pub read_is_spelled : (t : List ℕ) (a : Access) → script_step t ≡ Some a → IsSpelled t a
unfolding script_step
read_is_spelled t a e =
    read_row (codes "load ") t load_step _ a e (λ rest. load_is rest a)
    (λ e. read_row (codes "store ") t store_step _ a e (λ rest. store_is rest a)
    (λ e. read_row (codes "cas") t swap_step _ a e (λ rest. swap_is rest a)
    (λ e. read_row (codes "in ") t in_step _ a e (λ rest. in_is rest a)
    (λ e. read_row (codes "out ") t out_step _ a e (λ rest. out_is rest a)
    (λ e. read_row (codes "cfgr") t read_step _ a e (λ rest. read_is rest a)
    (λ e. read_row (codes "cfgw") t write_step _ a e (λ rest. write_is rest a)
    (λ e. read_row (codes "icr") t icr_step _ a e (λ rest. icr_is rest a)
    (λ e. read_row (codes "halt") t (end_step Halt) _ a e (λ rest. halt_is rest a)
    (λ e. read_row (codes "nop") t (end_step Nop) _ a e (λ rest. nop_is rest a)
    (λ e. absurd (none-some a e)))))))))))

-- the texts that are read as an access are those that spell it
pub read_as_spelled : (t : List ℕ) (a : Access) → (script_step t ≡ Some a) ↔ IsSpelled t a
read_as_spelled t a = (read_is_spelled t a, λ s. rw s.spelled (reads_spelled a s.normal s.fields))
