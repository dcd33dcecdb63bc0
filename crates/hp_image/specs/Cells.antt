-- Initial stores: which a machine takes (own rule), and the writes that they are.
use Rattle.std.specs.Prelude.{◌≡◌, ℕ, Bool, true, ◌&&◌, ◌||◌, ◌==◌, nat_le, ◌+◌, List, [], ◌∷◌}
use Rattle.std.specs.List.{list_all}
use Rattle.hp_model.specs.Memory.{Write, write_of}
use Rattle.hp_image.specs.declared.stores.Cell.{Cell}

-- the widths of an access to memory
abbrev pub is_width : ℕ → Bool
is_width width = (width == 1) || ((width == 2) || ((width == 4) || (width == 8)))

-- the cell has such a width, and its bytes are addresses below `low`
abbrev pub cell_fits : ℕ → Cell → Bool
cell_fits low c = is_width c.width && nat_le (c.addr + c.width) low

abbrev pub cells_fit : ℕ → List Cell → Bool
cells_fit low cs = list_all (cell_fits low) cs

-- cells for a machine whose RAM is the addresses below `low`
abbrev pub AreCells : ℕ → List Cell → Type 0
AreCells low cs = cells_fit low cs ≡ true

-- a write for each cell in order, over the writes before them
unfoldable pub stored_cells : List Cell → List Write → List Write
stored_cells [] ws = ws
stored_cells (c ∷ cs) ws = stored_cells cs (write_of c.addr c.width c.value ∷ ws)
