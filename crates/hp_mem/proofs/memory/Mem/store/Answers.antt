use Rattle.std.proofs.Common.{◌≡◌, ◌+◌, ◌/◌, ◌<◌, ℕ, List, ap, sym, ◌∙◌, arith}
use Rattle.std.proofs.lemmas.List.{with_items_is}
use Rattle.std.proofs.lemmas.Result.{MatchResult-from_err}
use Rattle.hp_model.specs.Memory.{write_of}
use Rattle.hp_mem.specs.Kept.{kept_at}
use Rattle.hp_mem.specs.Pages.{byte_in, entry}
use Rattle.hp_mem.proofs.Storing.{stored_in_page, same_under, same_pages, covers_two}
use Rattle.hp_mem.proofs.memory.Mem.store.Goals as goal

pub invariant_of-self : goal.invariant_of-self
invariant_of-self c =
    let items = with_items_is c.self.inside.bytes c.put_word.new.bytes (c.put_word.ensures.len ∙ c.as_mut_slice.ensures.len) in
    rw items (same_pages c.self.inside.directory.items c.self.inside.bytes.items c.put_word.new.bytes c.self.invariant (rw c.as_mut_slice.ensures.value at c.put_word.ensures.len))

pub returns-then-offset-from-le-PAGE-clause-written :
    goal.returns-then-offset-from-le-PAGE-clause-written
returns-then-offset-from-le-PAGE-clause-written c = λ x.
    let directory = c.self.inside.directory.items in
    let bytes = c.self.inside.bytes.items in
    let items = with_items_is c.self.inside.bytes c.put_word.new.bytes (c.put_word.ensures.len ∙ c.as_mut_slice.ensures.len) in
    let written = rw c.as_mut_slice.ensures.value at c.put_word.ensures.written in
    let taken : entry directory (c.args.addr / 4096) ≡ c.in_ok-entry.entry = rw (← c.self.view_is) at c.in_ok-entry.ensures.taken.1 in
    let stored = stored_in_page directory bytes c.put_word.new.bytes c.args.addr c.args.width c.args.value c.in_ok-entry.entry
    c.self.invariant (sym taken) c.in_ok-entry.ensures.taken.0 (omega (arith, c.if-offset-from-le-PAGE.true, c.from.ensures)) written x in
    let unchanged : byte_in directory bytes x ≡ kept_at c.args.self.now x = rw (← c.self.view_is) at (c.take_page.ensures.unchanged x) in
    let under = same_under (write_of c.args.addr c.args.width c.args.value) (byte_in directory bytes) (kept_at c.args.self.now) x unchanged in
    ap (λ (bs : List ℕ). byte_in directory bs x) items ∙ stored ∙ under

pub returns-in_err-take_page-clause-no_memory : goal.returns-in_err-take_page-clause-no_memory
returns-in_err-take_page-clause-no_memory c =
    MatchResult-from_err c.from_residual-in_err-take_page.result _ _ c.from_residual-in_err-take_page.ensures.0
    (λ y x. c.take_page-2.ensures.unchanged x ∙ c.take_page.ensures.unchanged x)

pub put_value-requires-clause-covers : goal.put_value-requires-clause-covers
put_value-requires-clause-covers c =
    let directory = c.self-2.inside.directory.items in
    let page = c.args.addr / 4096 in
    let taken : entry c.take_page.new.self.directory page ≡ c.in_ok-entry.entry = c.in_ok-entry.ensures.taken.1 in
    let there : 0 < entry c.take_page.new.self.directory page = rw taken c.in_ok-entry.ensures.taken.0 in
    let kept : entry directory page ≡ entry c.take_page.new.self.directory page = rw (← c.self-2.view_is) at (c.take_page-2.ensures.kept page there) in
    let first : 0 < entry directory page = rw kept there in
    let added : 0 < entry c.take_page-2.new.self.directory (page + 1) = rw c.in_ok-take_page.ensures.taken.1 c.in_ok-take_page.ensures.taken.0 in
    let second : 0 < entry directory (page + 1) = rw (← c.self-2.view_is) at added in
    rw (c.as_slice.ensures.value, c.from-2.ensures) (covers_two directory c.args.addr c.args.width first second (grind (arith, c.requires.width)))

pub invariant_of-self-2 : goal.invariant_of-self-2
invariant_of-self-2 c =
    let items = with_items_is c.self-2.inside.bytes c.put_value.new.bytes (c.put_value.ensures.len ∙ c.as_mut_slice-2.ensures.len) in
    rw items (same_pages c.self-2.inside.directory.items c.self-2.inside.bytes.items c.put_value.new.bytes c.self-2.invariant (rw c.as_mut_slice-2.ensures.value at c.put_value.ensures.len))

pub returns-clause-written : goal.returns-clause-written
returns-clause-written c = λ x.
    let directory = c.self-2.inside.directory.items in
    let bytes = c.self-2.inside.bytes.items in
    let items = with_items_is c.self-2.inside.bytes c.put_value.new.bytes (c.put_value.ensures.len ∙ c.as_mut_slice-2.ensures.len) in
    let stored = rw (c.as_slice.ensures.value, c.as_mut_slice-2.ensures.value, c.from-2.ensures) at (c.put_value.ensures.written x) in
    let unchanged : byte_in directory bytes x ≡ kept_at c.args.self.now x = rw (← c.self-2.view_is) at (c.take_page-2.ensures.unchanged x) ∙ c.take_page.ensures.unchanged x in
    let under = same_under (write_of c.args.addr c.args.width c.args.value) (byte_in directory bytes) (kept_at c.args.self.now) x unchanged in
    ap (λ (bs : List ℕ). byte_in directory bs x) items ∙ stored ∙ under
