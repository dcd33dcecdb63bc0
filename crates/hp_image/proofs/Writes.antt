-- What initial stores leave alone, and lists of them one after the other.
use Rattle.std.proofs.Common.{◌≡◌, ℕ, ◌&&◌, ◌+◌, ◌≤◌, List, [], ◌∷◌, ◌++◌, refl, ◌∙◌, arith}
use Rattle.std.specs.Prelude.{nat_le}
use Rattle.std.proofs.lemmas.Bool.{and_parts, leb-true}
use Rattle.std.proofs.lemmas.List.Folds.{list_all-append}
use Rattle.std.proofs.lemmas.Bool.Decides.{nat_tests}
use Rattle.hp_model.specs.Memory.{Write, byte_at, write_of}
use Rattle.hp_model.proofs.Bytes.{length-bytes_of}
use Rattle.hp_image.specs.declared.stores.Cell.{Cell}
use Rattle.hp_image.specs.Cells.{is_width, cell_fits, cells_fit, AreCells, stored_cells}

written_past : (addr width value : ℕ) (ws : List Write) (x : ℕ) → addr + width ≤ x → byte_at (write_of addr width value ∷ ws) x ≡ byte_at ws x
written_past addr width value ws x h = grind (arith, nat_tests, length-bytes_of width value)

pub stored_past : (low : ℕ) (cs : List Cell) (ws : List Write) (x : ℕ) → AreCells low cs → low ≤ x → byte_at (stored_cells cs ws) x ≡ byte_at ws x
unfolding stored_cells
stored_past low [] ws x fit h = refl
stored_past low (c ∷ cs) ws x fit h =
    let parts = and_parts (cell_fits low c) (cells_fit low cs) fit in
    let below = leb-true (c.addr + c.width) low (and_parts (is_width c.width) (nat_le (c.addr + c.width) low) parts.0).1 in
    stored_past low cs (write_of c.addr c.width c.value ∷ ws) x parts.1 h ∙ written_past c.addr c.width c.value ws x (omega (arith, below, h))

pub fit_in_order : (low : ℕ) (cs ds : List Cell) → cells_fit low (cs ++ ds) ≡ (cells_fit low cs && cells_fit low ds)
fit_in_order low cs ds = list_all-append (cell_fits low) cs ds

pub stored_in_order : (cs ds : List Cell) (ws : List Write) → stored_cells (cs ++ ds) ws ≡ stored_cells ds (stored_cells cs ws)
unfolding stored_cells
stored_in_order [] ds ws = refl
stored_in_order (c ∷ cs) ds ws = stored_in_order cs ds (write_of c.addr c.width c.value ∷ ws)

pub ruleset in_order = (fit_in_order, stored_in_order)
