-- Reports are true: the test of each transition of a run.
use Rattle.std.proofs.Common.{ℕ, ◌≡◌, ◌+◌, ◌*◌, ◌==◌, Bool, true, false, ◌&&◌, ◌||◌, List, [], ◌∷◌, ◌++◌, Option, Some, None, refl, sym, ap, subst, ◌∙◌}
use Rattle.std.specs.List.{list_all}
use Rattle.std.proofs.lemmas.Bool.{and_from, or_right, eqb-true}
use Rattle.hp_model.specs.declared.platforms.Platform.{Platform}
use Rattle.hp_model.specs.declared.accesses.Access.{Access}
use Rattle.hp_model.specs.declared.accesses.Want.TheVariants as want
use Rattle.hp_model.specs.declared.entries.Entry.{Entry}
use Rattle.hp_model.specs.declared.entries.Event.TheVariants.{Insert, Remove, Do, TakeSmi, TakeInit, Resume, Tell}
use Rattle.hp_model.specs.declared.labels.Label.{Label}
use Rattle.hp_model.specs.declared.labels.Label.TheVariants.{C4, C6, T, E7}
use Rattle.hp_model.specs.Platform.{IsFit, tile}
use Rattle.hp_model.specs.Cpu.{smm_address}
use Rattle.hp_model.specs.Boot.{is_handed, value_in}
use Rattle.hp_model.specs.declared.labels.Handler.TheVariants.{Monarch as Monarchs}
use Rattle.hp_model.specs.Labels.{handler_of, index_of}
use Rattle.hp_model.specs.SharedBytes.{layout_of}
use Rattle.hp_model.specs.declared.reports.Report.{Report}
use Rattle.hp_model.specs.Collection.{Collection}
use Rattle.hp_model.specs.Monarch.{is_own}
use Rattle.hp_model.specs.Handlers.{want_at}
use Rattle.hp_model.specs.State.{State, at}
use Rattle.hp_model.specs.Access.{answer_to}
use Rattle.hp_model.specs.Firmware.{seat}
use Rattle.hp_model.specs.Step.{is_after_broadcast}
use Rattle.hp_model.specs.Runs.{run_on}
use Rattle.hp_model.specs.Transitions.{Transition, transitions, entries_of, at_each}
use Rattle.hp_model.specs.Account.{is_at}
use Rattle.hp_model.specs.Sessions.{bounds_session, session, triples, is_disturbed}
use Rattle.hp_model.specs.Exact.{rises, has_status, is_true, last_is_true, reports_truly}
use Rattle.hp_model.proofs.AtEach.{made, each_passes}
use Rattle.hp_sealed.specs.Left.{Sound}
use Rattle.hp_sealed.proofs.Starts.{sound}
use Rattle.hp_safety.proofs.Marked.{at_none, at_monarch, at_other, same_index}
use Rattle.hp_exact.proofs.Account.{Account, account, account_more}
use Rattle.hp_exact.proofs.Stood.{IsStood, stood}
use Rattle.hp_exact.proofs.Stepping.{AtMonarch, Kinds, entry_by, by_kind}
use Rattle.hp_exact.proofs.Naming.{ids_of, is_own-is}
use Rattle.hp_exact.proofs.Reports.{rises_last, drop_last}
use Rattle.hp_exact.proofs.Tying.{row_account, account_row, one_more}
use Rattle.hp_exact.proofs.Rows.{reads_row}
use Rattle.hp_exact.proofs.InSmm.{none_outside, init_outside}
use Rattle.hp_exact.proofs.Invariant.{last_read, Invariant}
use Rattle.hp_exact.proofs.Wholes.{Whole, whole_begins, whole_goes, outside_before}
use Rattle.hp_exact.proofs.Quiet.{handed_of}
use Rattle.hp_safety.proofs.Entering.{may_outside}

-- the test asks nothing of entries elsewhere
elsewhere : (p : Platform) (past : List Transition) (x : Transition) → is_at p C6 x.entry ≡ false → reports_truly p past x ≡ true
unfolding reports_truly
elsewhere p past x is = subst (λ b. (elim b as (λ _. Bool) [ true ↦ rises (triples p (session (entries_of (x ∷ past)))) && (is_disturbed p (entries_of (x ∷ past)) || last_is_true p past (triples p (session (entries_of (x ∷ past))))) | false ↦ true ]) ≡ true) (sym is) refl

at_report : (p : Platform) (past : List Transition) (x : Transition) → is_at p C6 x.entry ≡ true
    → rises (triples p (session (entries_of (x ∷ past)))) ≡ true → (is_disturbed p (entries_of (x ∷ past)) || last_is_true p past (triples p (session (entries_of (x ∷ past))))) ≡ true → reports_truly p past x ≡ true
unfolding reports_truly
at_report p past x is rising truly =
    subst (λ b. (elim b as (λ _. Bool) [ true ↦ rises (triples p (session (entries_of (x ∷ past)))) && (is_disturbed p (entries_of (x ∷ past)) || last_is_true p past (triples p (session (entries_of (x ∷ past))))) | false ↦ true ]) ≡ true) (sym is) (and_from _ _ rising truly)

-- the status of a report, whatever its APIC ID
same_status : (t u : Report) (o : Option Transition) → t.cpu ≡ u.cpu → t.status ≡ u.status → has_status t o ≡ has_status u o
same_status t u None c v = refl
same_status t u (Some x) c v = rw (c, v) refl

module _ (p : Platform) (fit : Sound p) (past : List Transition) (s : State) (standing : IsStood p s) (h : Invariant p past s) where
  abbrev Test : Entry → State → Type 0
  Test e t = reports_truly p past (made s e t) ≡ true

  -- the entry at C6
  reported : (a : Access) (e : Entry) (t : State) → AtMonarch p s C6 → want_at (layout_of p) (seat p s 0) s.monarch C6 ≡ Some (want.Do a)
      → e ≡ record { event = Do 0 a; answer = answer_to true a s; at = smm_address (at s 0) } → Test e t
  reported a e t here wants is =
      at_report p past (made s e t) now
      (subst (λ ts. rises ts ≡ true) (sym made_reports) (rises_last c.reports made_report h.ordered.rising (h.ordered.below (rw here.label refl))))
      (by_flag s.disturbed refl)
    where
      c : Collection
      c = s.monarch.collection

      v : ℕ
      v = value_in (answer_to true a s)

      made_report : Report
      made_report = record { cpu = c.cpu; status = c.status; apic = v }

      place : e.at ≡ Some (tile p 0 + 0x8000 + 4 * index_of C6)
      place = ap (λ (x : Entry). x.at) is ∙ here.place

      seen : (m : Label) → handler_of m ≡ Monarchs → is_at p m e ≡ (index_of C6 == index_of m)
      seen m part = at_monarch p C6 m e (tile p 0) refl place part

      now : is_at p C6 e ≡ true
      now = seen C6 refl

      told : account p (e ∷ entries_of past) ≡ row_account C6 v (account p (entries_of past))
      told =
          account_more p e (entries_of past) (ap (λ (x : Entry). bounds_session x) is)
          ∙ (account_row p e C6 (account p (entries_of past)) seen (rw place refl) ∙ ap (λ (x : Entry). row_account C6 (value_in x.answer) (account p (entries_of past))) is)

      after : is_after_broadcast s.monarch.label ≡ true
      after = let label = here.label in rw label refl

      made_reports : triples p (session (e ∷ entries_of past)) ≡ c.reports ++ made_report ∷ []
      made_reports =
          ap (λ (x : Account). x.reports) told
          ∙ one_more (account p (entries_of past)).reports c.reports (account p (entries_of past)).cpu c.cpu (account p (entries_of past)).status c.status v (h.tied.reports (rw here.label refl)) (h.tied.found (rw here.label refl)) (h.tied.judged (rw here.label refl))

      flag : is_disturbed p (e ∷ entries_of past) ≡ s.disturbed
      flag = ap (λ (x : Account). x.disturbed) told ∙ (h.tied.called after).2

      truly : s.disturbed ≡ false → is_true p past made_report ≡ true
      truly quiet =
          let u = h.undisturbed after quiet in
          let reads = reads_row p s past (made s e t) C6 a fit here wants h.modern h.agrees h.ordered (λ was. h.undisturbed was quiet) refl (seen C4 refl) in
          and_from (is_own p.apic made_report) (has_status made_report (last_read p past))
          (is_own-is p made_report (u.reported.other (rw here.label refl)) (h.ordered.possible (rw here.label refl)) (sym (reads.names refl)))
          (same_status made_report (record { cpu = c.cpu; status = c.status; apic = 0 }) (last_read p past) refl refl ∙ u.read (rw here.label refl))

      by_flag : (b : Bool) → s.disturbed ≡ b → (is_disturbed p (e ∷ entries_of past) || last_is_true p past (triples p (session (e ∷ entries_of past)))) ≡ true
      by_flag true yes_it_is = let f = flag ∙ yes_it_is in rw f refl
      by_flag false no_it_isnt =
          or_right (is_disturbed p (e ∷ entries_of past)) (last_is_true p past (triples p (session (e ∷ entries_of past))))
          (subst (λ ts. last_is_true p past ts ≡ true) (sym made_reports)
          (subst (λ ts. list_all (is_true p past) ts ≡ true) (sym (drop_last c.reports made_report)) (and_from (is_true p past made_report) true (truly no_it_isnt) refl)))

  at_row : (l : Label) (a : Access) (e : Entry) (t : State) → AtMonarch p s l → want_at (layout_of p) (seat p s 0) s.monarch l ≡ Some (want.Do a)
      → e ≡ record { event = Do 0 a; answer = answer_to true a s; at = smm_address (at s 0) } → Test e t
  at_row l a e t here wants is = by_label (index_of l == index_of C6) refl
    where
      by_label : (b : Bool) → (index_of l == index_of C6) ≡ b → Test e t
      by_label true ten =
          let same : l ≡ C6 = same_index l C6 here.part (eqb-true (index_of l) (index_of C6) ten) in
          reported a e t (subst (AtMonarch p s) same here) (subst (λ m. want_at (layout_of p) (seat p s 0) s.monarch m ≡ Some (want.Do a)) same wants) is
      by_label false other = elsewhere p past (made s e t) (at_monarch p l C6 e (tile p 0) refl (ap (λ (x : Entry). x.at) is ∙ here.place) refl ∙ other)

  kinds : Kinds p s Test
  kinds = record {
    inserts = λ k g less gone. elsewhere p past (made s _ _) (at_none p C6 (entry_by s (Insert k)) refl);
    removes = λ k g. elsewhere p past (made s _ _) (at_none p C6 (entry_by s (Remove k)) refl);
    outside = λ k a g free out. elsewhere p past (made s _ _) (at_none p C6 (record { event = Do k a; answer = answer_to false a s; at = smm_address (at s k) }) (none_outside (at s k) out));
    monarchs = λ l a g here wants. at_row l a (record { event = Do 0 a; answer = answer_to true a s; at = smm_address (at s 0) }) _ here wants refl;
    others = λ k l a g here wants. elsewhere p past (made s _ _) (at_other p l C6 (record { event = Do k a; answer = answer_to true a s; at = smm_address (at s k) }) k (at s k).smbase fit here.runs here.part here.place refl);
    enters = λ k g may. elsewhere p past (made s _ _) (at_none p C6 (entry_by s (TakeSmi k)) (may_outside (at s k) may));
    inits = λ k g may. elsewhere p past (made s _ _) (at_none p C6 (entry_by s (TakeInit k)) (init_outside (at s k) may));
    rests = λ g here. elsewhere p past (made s _ _) (at_monarch p E7 C6 (entry_by s (Resume 0)) (tile p 0) refl here.place refl);
    returns = λ k l g here where_is. elsewhere p past (made s _ _) (at_other p l C6 (entry_by s (Resume k)) k (at s k).smbase fit here.runs here.part here.place refl);
    tells = λ o g here same. elsewhere p past (made s _ _) (at_monarch p T C6 (entry_by s (Tell o)) (tile p 0) refl here.place refl);
  }

  pub true_after : (e : Entry) (t : State) → run_on p s e ≡ Some t → reports_truly p past (made s e t) ≡ true
  true_after e t is = by_kind p s Test standing kinds e t is

true_passes : (p : Platform) → Sound p → (past : List Transition) (s t : State) (e : Entry) → Whole p past s → run_on p s e ≡ Some t → reports_truly p past (made s e t) ≡ true
true_passes p fit past s t e h is = by_stage (is_handed s.stage) refl
  where
    by_stage : (b : Bool) → is_handed s.stage ≡ b → reports_truly p past (made s e t) ≡ true
    by_stage true handed = true_after p fit past s (stood p s fit (handed_of p s h.good handed)) (h.handed handed) e t is
    by_stage false before = elsewhere p past (made s e t) (at_none p C6 e (outside_before p s t e h.good before is))

pub law : (p : Platform) (es : List Entry) → IsFit p → at_each (reports_truly p) (transitions p es) ≡ true
law p es fits = each_passes p (Whole p) (λ past s t e h is. whole_goes p (sound p fits) (ids_of p fits) past s t e h is) (reports_truly p) (λ past s t e h is. true_passes p (sound p fits) past s t e h is) (whole_begins p fits) es
