-- Which row loads an arrived byte, and what one entry more makes of the last look at it.
use Rattle.std.specs.Prelude.{slice_index_or, if◌then◌else◌}
use Rattle.std.proofs.Common.{ℕ, zero, suc, ◌≡◌, ◌+◌, ◌≤◌, ◌==◌, Bool, true, false, ◌&&◌, ◌||◌, List, [], ◌∷◌, length, replicate, refl, ap, ◌∙◌, arith}
use Rattle.std.proofs.lemmas.Bool.Decides.{nat_tests}
use Rattle.hp_model.specs.declared.platforms.Platform.{Platform}
use Rattle.hp_model.specs.declared.accesses.Access.TheVariants.{Load}
use Rattle.hp_model.specs.declared.labels.Label.{Label}
use Rattle.hp_model.specs.declared.entries.Event.{Event}
use Rattle.hp_model.specs.declared.entries.Entry.{Entry}
use Rattle.hp_model.specs.Platform.{tseg}
use Rattle.hp_model.specs.Memory.{Write}
use Rattle.hp_model.specs.Boot.{value_in}
use Rattle.hp_model.specs.declared.labels.Handler.TheVariants.{Monarch as Monarchs}
use Rattle.hp_model.specs.Labels.{handler_of, index_of}
use Rattle.hp_model.specs.SharedBytes.{layout_of, arrived_byte}
use Rattle.hp_model.specs.Monarch.{Monarch}
use Rattle.hp_model.specs.Handlers.{Seat, want_at}
use Rattle.hp_model.specs.Access.{same_access}
use Rattle.hp_model.specs.Transitions.{newest}
use Rattle.hp_model.specs.Sessions.{bounds_session, session, monarch_makes, last_look}
use Rattle.hp_sealed.specs.Left.{Sound}
use Rattle.hp_safety.proofs.EachRow.{row_of_each}
use Rattle.hp_safety.proofs.Invariant.{facts_of, Met}
use Rattle.hp_safety.proofs.Backward.{newest_it, newest_other, session_on, session_none}
use Rattle.hp_safety.proofs.MonarchSteps.{IsWanted}

-- which row loads an arrived byte
abbrev pub makes_load : Platform → ℕ → Event → Bool
makes_load p k v = monarch_makes (Load (arrived_byte (layout_of p) k) 1) v

abbrev pub loads_at : Label → Monarch → ℕ → Bool
loads_at l r k = if index_of l == 3 then k == r.slot else if (index_of l == 21) || (index_of l == 24) then k == r.add.slot else false

same_byte : (base a b : ℕ) → ((base + a == base + b) && true) ≡ (a == b)
same_byte base a b = by_same (a == b) refl
  where
    more : (c d : Bool) → c ≡ d → (c && true) ≡ d
    more true d e = e
    more false d e = e

    plain : (base a b : ℕ) (c : Bool) → (a == b) ≡ c → (base + a == base + b) ≡ c
    plain base a b true e = grind (arith, nat_tests)
    plain base a b false e = grind (arith, nat_tests)

    by_same : (c : Bool) → (a == b) ≡ c → ((base + a == base + b) && true) ≡ c
    by_same c e = more (base + a == base + b) c (plain base a b c e)

not_same : (c : Bool) → c ≡ false → (c && true) ≡ false
not_same c e = rw e refl

not_flag : (base k : ℕ) → 0x800000 ≤ base → ((base + k == 0x3000c) && true) ≡ false
not_flag base k above = not_same (base + k == 0x3000c) (grind (arith, nat_tests))

not_parked : (base k slot : ℕ) → k ≤ 512 → ((base + k == base + 0x3000 + slot) && true) ≡ false
not_parked base k slot small = not_same (base + k == base + 0x3000 + slot) (grind (arith, nat_tests))

pub row_loads : (p : Platform) (q : Seat) (r : Monarch) (ws : List Write) (apic base k : ℕ) (v : Event) (l : Label) → Sound p → k ≤ 512 → handler_of l ≡ Monarchs → Met p r ws apic base l → IsWanted (want_at (layout_of p) q r l) v → makes_load p k v ≡ loads_at l r k
unfolding same_access
row_loads p q r ws apic base k v l sound small mine met is = row_of_each (λ l. handler_of l ≡ Monarchs → IsWanted (want_at (layout_of p) q r l) v → makes_load p k v ≡ loads_at l r k) (record {
  f1 = λ g w. absurd cc;
  f2 = λ g w. absurd cc;
  f3 = λ g w. absurd cc;
  f4 = λ g w. absurd cc;
  f5 = λ g w. absurd cc;
  f6 = λ g w. absurd cc;
  r1 = λ g w. absurd cc;
  r2 = λ g w. absurd cc;
  r3 = λ g w. absurd cc;
  r4 = λ g w. absurd cc;
  r5 = λ g w. absurd cc;
  r6 = λ g w. absurd cc;
  s0 = λ g w. ap (makes_load p k) w;
  s1 = λ g w. ap (makes_load p k) w;
  s2 = λ g w. ap (makes_load p k) w;
  s3 = λ g w. ap (makes_load p k) w ∙ same_byte (tseg p) k r.slot;
  s4 = λ g w. ap (makes_load p k) w;
  c1 = λ g w. ap (makes_load p k) w;
  c2 = λ g w. ap (makes_load p k) w;
  c3 = λ g w. ap (makes_load p k) w;
  c4 = λ g w. ap (makes_load p k) w;
  c5 = λ g w. ap (makes_load p k) w;
  c6 = λ g w. ap (makes_load p k) w;
  nb = λ g w. ap (makes_load p k) w;
  n0 = λ g w. ap (makes_load p k) w;
  n1 = λ g w. ap (makes_load p k) w;
  n2 = λ g w. ap (makes_load p k) w;
  n3 = λ g w. ap (makes_load p k) w;
  n4 = λ g w. ap (makes_load p k) w;
  n5 = λ g w. ap (makes_load p k) w;
  n6 = λ g w. ap (makes_load p k) w;
  n7 = λ g w. ap (makes_load p k) w;
  n8a = λ g w. ap (makes_load p k) w ∙ not_flag (tseg p) k sound.above;
  n8b = λ g w. ap (makes_load p k) w ∙ same_byte (tseg p) k r.add.slot;
  n9 = λ g w. ap (makes_load p k) w;
  n10 = λ g w. ap (makes_load p k) w;
  n11 = λ g w. ap (makes_load p k) w ∙ same_byte (tseg p) k r.add.slot;
  e0 = λ g w. ap (makes_load p k) w;
  e1 = λ g w. ap (makes_load p k) w;
  e2 = λ g w. ap (makes_load p k) w ∙ not_parked (tseg p) k r.eject.slot small;
  e3 = λ g w. ap (makes_load p k) w;
  e4a = λ g w. ap (makes_load p k) w;
  e4b = λ g w. ap (makes_load p k) w;
  e4c = λ g w. ap (makes_load p k) w;
  e4d = λ g w. ap (makes_load p k) w;
  e4e = λ g w. ap (makes_load p k) w;
  e4f = λ g w. ap (makes_load p k) w;
  e4g = λ g w. ap (makes_load p k) w;
  e4h = λ g w. ap (makes_load p k) w;
  t = λ g w. ap (makes_load p k) w;
  e5 = λ g w. ap (makes_load p k) w;
  e6 = λ g w. ap (makes_load p k) w;
  e7 = λ g w. absurd w;
}) (facts_of p r ws apic base) l met mine is

-- looks over one entry more
pub look_on : (p : Platform) (k : ℕ) (es : List Entry) (e : Entry) → bounds_session e ≡ false → makes_load p k e.event ≡ false → last_look p k (e ∷ es) ≡ last_look p k es
look_on p k es e bound none = rw (session_on es e bound, newest_other (λ x. makes_load p k x.event) e (session es) none) refl

pub look_now : (p : Platform) (k : ℕ) (es : List Entry) (e : Entry) → bounds_session e ≡ false → makes_load p k e.event ≡ true → last_look p k (e ∷ es) ≡ value_in e.answer
look_now p k es e bound it = rw (session_on es e bound, newest_it (λ x. makes_load p k x.event) e (session es) it) refl

pub look_new : (p : Platform) (k : ℕ) (es : List Entry) (e : Entry) → bounds_session e ≡ true → last_look p k (e ∷ es) ≡ 2
unfolding newest
look_new p k es e bound = rw (session_none es e bound) refl

pub unread_look : (d n k : ℕ) → slice_index_or (replicate n d) k d ≡ d
unread_look d zero k = refl
unread_look d (suc n) zero = refl
unread_look d (suc n) (suc k) = unread_look d n k

pub length-unread : (d n : ℕ) → length (replicate n d) ≡ n
length-unread d zero = refl
length-unread d (suc n) = ap suc (length-unread d n)
