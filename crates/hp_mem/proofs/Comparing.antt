-- Bytes that are the same in two memories, one address or one page more.
use Rattle.std.proofs.Common.{◌≡◌, ◌⊎◌, inl, inr, ℕ, ◌+◌, ◌*◌, ◌/◌, ◌<◌, ◌≤◌, List, length, false, sym, ◌∙◌, arith}
use Rattle.std.proofs.lemmas.Bool.{cases_lt}
use Rattle.std.proofs.lemmas.List.{get_or_past}
use Rattle.hp_model.specs.declared.spans.Span.{Span}
use Rattle.hp_model.specs.Spans.{in_some_span}
use Rattle.hp_mem.specs.Pages.{byte_by, byte_in, entry}
use Rattle.hp_mem.specs.Same.{SameAt, SameFrom, SameOutside}
use Rattle.hp_mem.proofs.Finding.{by_none}

pub same_none : (f g : ℕ → ℕ) (hidden : List Span) (first n : ℕ) → n ≡ 0 → SameFrom f g hidden first n
same_none f g hidden first n none = record { each = λ x from to shown. elim (no_room x from to) [ ] }
  where
    no_room : (x : ℕ) → first ≤ x → x < first + n → ⊥
    no_room x from to = omega arith

pub same_more : (f g : ℕ → ℕ) (hidden : List Span) (first n : ℕ) → SameFrom f g hidden first n → SameAt f g hidden (first + n) → SameFrom f g hidden first (n + 1)
same_more f g hidden first n same last = record { each = λ x from to shown. before_or_last x from to shown (cases_lt x (first + n)) }
  where
    before_or_last : (x : ℕ) → first ≤ x → x < first + (n + 1) → in_some_span hidden x ≡ false → (x < first + n) ⊎ (first + n ≤ x) → f x ≡ g x
    before_or_last x from to shown (inl before) = same.each x from before shown
    before_or_last x from to shown (inr past) = let is : x ≡ first + n = omega arith in rw is (last (rw (← is) shown))

pub same_there : (f g : ℕ → ℕ) (hidden : List Span) (first n k : ℕ) → SameFrom f g hidden first n → k < n → SameAt f g hidden (first + k)
same_there f g hidden first n k same below = λ shown. same.each (first + k) (omega arith) (omega arith) shown

pub same_missing : (ours theirs : List ℕ) (e d : ℕ) (hidden : List Span) (first n : ℕ) → e ≡ 0 → d ≡ 0 → SameFrom (byte_by e ours) (byte_by d theirs) hidden first n
same_missing ours theirs e d hidden first n none nor = record { each = λ x from to shown. by_none e x ours none ∙ sym (by_none d x theirs nor) }

-- a page, by its entries and by the directories
pub by_directories : (a ours b theirs : List ℕ) (e d page : ℕ) (hidden : List Span) → e ≡ entry a page → d ≡ entry b page →
    SameFrom (byte_by e ours) (byte_by d theirs) hidden (page * 4096) 4096 → SameFrom (byte_in a ours) (byte_in b theirs) hidden (page * 4096) 4096
by_directories a ours b theirs e d page hidden is_e is_d same = record {
  each = λ x from to shown.
      let here : x / 4096 ≡ page = omega arith in
      rw (here, ← is_e, ← is_d) (same.each x from to shown);
}

pub by_entries : (a ours b theirs : List ℕ) (e d page : ℕ) (hidden : List Span) → e ≡ entry a page → d ≡ entry b page →
    SameOutside (byte_in a ours) (byte_in b theirs) hidden → SameFrom (byte_by e ours) (byte_by d theirs) hidden (page * 4096) 4096
by_entries a ours b theirs e d page hidden is_e is_d same = record {
  each = λ x from to shown.
      let here : x / 4096 ≡ page = omega arith in
      rw (is_e, is_d, ← here) (same.each x shown);
}

pub same_pages_more : (f g : ℕ → ℕ) (hidden : List Span) (page : ℕ) → SameFrom f g hidden 0 (page * 4096) → SameFrom f g hidden (page * 4096) 4096 → SameFrom f g hidden 0 ((page + 1) * 4096)
same_pages_more f g hidden page same last = record { each = λ x from to shown. before_or_in x from shown to (cases_lt x (page * 4096)) }
  where
    before_or_in : (x : ℕ) → 0 ≤ x → in_some_span hidden x ≡ false → x < 0 + (page + 1) * 4096 → (x < page * 4096) ⊎ (page * 4096 ≤ x) → f x ≡ g x
    before_or_in x from shown to (inl before) = same.each x from (omega arith) shown
    before_or_in x from shown to (inr past) = last.each x past (omega arith) shown

-- past both directories nothing was stored
pub same_outside : (a ours b theirs : List ℕ) (hidden : List Span) (pages : ℕ) → length a ≤ pages → length b ≤ pages →
    SameFrom (byte_in a ours) (byte_in b theirs) hidden 0 (pages * 4096) → SameOutside (byte_in a ours) (byte_in b theirs) hidden
same_outside a ours b theirs hidden pages short small same = record { each = λ x shown. below_or_past x shown (cases_lt x (pages * 4096)) }
  where
    below_or_past : (x : ℕ) → in_some_span hidden x ≡ false → (x < pages * 4096) ⊎ (pages * 4096 ≤ x) → byte_in a ours x ≡ byte_in b theirs x
    below_or_past x shown (inl below) = same.each x (omega arith) (omega arith) shown
    below_or_past x shown (inr past) =
        let none : entry a (x / 4096) ≡ 0 = get_or_past a (x / 4096) 0 (omega arith) in
        let nor : entry b (x / 4096) ≡ 0 = get_or_past b (x / 4096) 0 (omega arith) in
        by_none (entry a (x / 4096)) x ours none ∙ sym (by_none (entry b (x / 4096)) x theirs nor)

pub ruleset page_facts = (same_none, same_more, same_there, same_missing)

pub ruleset memory_facts = (same_none, same_pages_more, by_directories, by_entries, same_outside)
