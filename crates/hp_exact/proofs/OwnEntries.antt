-- The entries of an outcome, with one more: whether it is among them, by where it was made, and what is read of them.
use Rattle.std.proofs.Common.{◌≡◌, ◌==◌, Bool, true, false, ◌||◌, List, [], ◌∷◌, Some, refl, sym, subst}
use Rattle.hp_model.specs.declared.platforms.Platform.{Platform}
use Rattle.hp_model.specs.declared.accesses.Access.{Access}
use Rattle.hp_model.specs.declared.accesses.Want.TheVariants as want
use Rattle.hp_model.specs.declared.labels.Label.{Label}
use Rattle.hp_model.specs.declared.labels.Label.TheVariants.{C1, C2, C3, C4, C5, C6, NB, N0, N1, N2, N3, N4, N5, N6, N7, N8a, N8b, N9, N10, N11, E0, E1, E2, E3, E4a, T, E4b, E4c, E4d, E4e, E4f, E4g, E4h}
use Rattle.hp_model.specs.declared.entries.Entry.{Entry}
use Rattle.hp_model.specs.declared.labels.Handler.TheVariants.{Monarch as Monarchs}
use Rattle.hp_model.specs.Labels.{handler_of, index_of}
use Rattle.hp_model.specs.SharedBytes.{layout_of}
use Rattle.hp_model.specs.Handlers.{want_at}
use Rattle.hp_model.specs.State.{State}
use Rattle.hp_model.specs.Firmware.{seat}
use Rattle.hp_model.specs.Transitions.{Transition, since}
use Rattle.hp_model.specs.Account.{is_at}
use Rattle.hp_model.specs.Sessions.{bounds_session, is_tell, ends_outcome}
use Rattle.hp_exact.proofs.Monarchs.{is_among, adding, ejecting}
use Rattle.hp_model.specs.Outcomes.{own_of, values_at}
use Rattle.std.specs.List.{list_any}
use Rattle.hp_model.specs.Boot.{value_in}

-- the entries of an outcome, with one more
pub own_more : (p : Platform) (x : Transition) (past : List Transition) → ends_outcome p x.entry ≡ false → own_of p (x ∷ past) ≡ x ∷ own_of p past
unfolding since
own_more p x past is = subst (λ b. (elim b as (λ _. List Transition) [ true ↦ [] | false ↦ x ∷ since (λ y. ends_outcome p y.entry) past ]) ≡ x ∷ since (λ y. ends_outcome p y.entry) past) (sym is) refl

pub own_none : (p : Platform) (x : Transition) (past : List Transition) → ends_outcome p x.entry ≡ true → own_of p (x ∷ past) ≡ []
unfolding since
own_none p x past is = subst (λ b. (elim b as (λ _. List Transition) [ true ↦ [] | false ↦ x ∷ since (λ y. ends_outcome p y.entry) past ]) ≡ []) (sym is) refl

-- an entry elsewhere is none of the collection's
pub elsewhere : (p : Platform) (e : Entry) → ((m : Label) → handler_of m ≡ Monarchs → is_at p m e ≡ false) → is_tell e ≡ false → bounds_session e ≡ false → ends_outcome p e ≡ false
elsewhere p e unseen silent within = rw (silent, unseen C1 refl, unseen C2 refl, unseen C3 refl, unseen C4 refl, unseen C5 refl, unseen C6 refl, within) refl

-- and one of the monarch's is by its label
abbrev pub is_collects : Label → Bool
is_collects l = list_any (λ m. index_of l == index_of m) (C1 ∷ C2 ∷ C3 ∷ C4 ∷ C5 ∷ C6 ∷ [])

pub by_label : (p : Platform) (e : Entry) (l : Label) → ((m : Label) → handler_of m ≡ Monarchs → is_at p m e ≡ (index_of l == index_of m)) → is_tell e ≡ false → bounds_session e ≡ false → ends_outcome p e ≡ (is_collects l || false)
by_label p e l seen silent within = rw (silent, seen C1 refl, seen C2 refl, seen C3 refl, seen C4 refl, seen C5 refl, seen C6 refl, within) refl

pub adding_goes : (l : Label) → is_among l adding ≡ true → (is_collects l || false) ≡ false
adding_goes NB e = refl
adding_goes N0 e = refl
adding_goes N1 e = refl
adding_goes N2 e = refl
adding_goes N3 e = refl
adding_goes N4 e = refl
adding_goes N5 e = refl
adding_goes N6 e = refl
adding_goes N7 e = refl
adding_goes N8a e = refl
adding_goes N8b e = refl
adding_goes N9 e = refl
adding_goes N10 e = refl
adding_goes N11 e = refl
adding_goes _ e = absurd cc

pub waiting_goes : (l : Label) → is_among l (E0 ∷ E1 ∷ E2 ∷ E3 ∷ E4a ∷ []) ≡ true → (is_collects l || false) ≡ false
waiting_goes E0 e = refl
waiting_goes E1 e = refl
waiting_goes E2 e = refl
waiting_goes E3 e = refl
waiting_goes E4a e = refl
waiting_goes _ e = absurd cc

pub anew_row : (p : Platform) (s : State) (l : Label) (a : Access) → want_at (layout_of p) (seat p s 0) s.monarch l ≡ Some (want.Do a) → is_among l (C3 ∷ C4 ∷ C6 ∷ T ∷ []) ≡ true → (is_collects l || false) ≡ true
anew_row p s C3 a wants e = refl
anew_row p s C4 a wants e = refl
anew_row p s C6 a wants e = refl
anew_row p s _ a wants e = absurd cc

-- at an eject's labels
pub ejecting_goes : (l : Label) → is_among l ejecting ≡ true → (is_collects l || false) ≡ false
ejecting_goes E0 e = refl
ejecting_goes E1 e = refl
ejecting_goes E2 e = refl
ejecting_goes E3 e = refl
ejecting_goes E4a e = refl
ejecting_goes E4b e = refl
ejecting_goes E4c e = refl
ejecting_goes E4d e = refl
ejecting_goes E4e e = refl
ejecting_goes E4f e = refl
ejecting_goes E4g e = refl
ejecting_goes E4h e = refl
ejecting_goes _ e = absurd cc

-- values that are read
pub values_past : (p : Platform) (l : Label) (e : Entry) (es : List Entry) → is_at p l e ≡ false → values_at p l (e ∷ es) ≡ values_at p l es
values_past p l e es is = rw is refl

pub values_here : (p : Platform) (l : Label) (e : Entry) (es : List Entry) → is_at p l e ≡ true → values_at p l (e ∷ es) ≡ value_in e.answer ∷ values_at p l es
values_here p l e es is = rw is refl
