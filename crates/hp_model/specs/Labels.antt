-- Labels of the SMI handlers (own rule): whose they are, their marks, and the cells where these stand.
use Rattle.std.specs.Prelude.{ℕ, Bool, ◌==◌, ◌+◌, ◌*◌, List, [], ◌∷◌, Option, Some, None, if◌then◌else◌}
use Rattle.hp_model.specs.declared.platforms.Platform.{Platform}
use Rattle.hp_model.specs.declared.labels.Label.{Label}
use Rattle.hp_model.specs.declared.labels.Label.TheVariants.{F1, F2, F3, F4, F5, F6, R1, R2, R3, R4, R5, R6, S0, S1, S2, S3, S4, C1, C2, C3, C4, C5, C6, NB, N0, N1, N2, N3, N4, N5, N6, N7, N8a, N8b, N9, N10, N11, E0, E1, E2, E3, E4a, E4b, E4c, E4d, E4e, E4f, E4g, E4h, T, E5, E6, E7}
use Rattle.hp_model.specs.declared.labels.Handler.{Handler}
use Rattle.hp_model.specs.declared.labels.Handler.TheVariants.{First, Relocated, Monarch}
use Rattle.hp_model.specs.Platform.{tile}

-- whose label it is
abbrev pub handler_of : Label → Handler
handler_of F1 = First
handler_of F2 = First
handler_of F3 = First
handler_of F4 = First
handler_of F5 = First
handler_of F6 = First
handler_of R1 = Relocated
handler_of R2 = Relocated
handler_of R3 = Relocated
handler_of R4 = Relocated
handler_of R5 = Relocated
handler_of R6 = Relocated
handler_of S0 = Monarch
handler_of S1 = Monarch
handler_of S2 = Monarch
handler_of S3 = Monarch
handler_of S4 = Monarch
handler_of C1 = Monarch
handler_of C2 = Monarch
handler_of C3 = Monarch
handler_of C4 = Monarch
handler_of C5 = Monarch
handler_of C6 = Monarch
handler_of NB = Monarch
handler_of N0 = Monarch
handler_of N1 = Monarch
handler_of N2 = Monarch
handler_of N3 = Monarch
handler_of N4 = Monarch
handler_of N5 = Monarch
handler_of N6 = Monarch
handler_of N7 = Monarch
handler_of N8a = Monarch
handler_of N8b = Monarch
handler_of N9 = Monarch
handler_of N10 = Monarch
handler_of N11 = Monarch
handler_of E0 = Monarch
handler_of E1 = Monarch
handler_of E2 = Monarch
handler_of E3 = Monarch
handler_of E4a = Monarch
handler_of E4b = Monarch
handler_of E4c = Monarch
handler_of E4d = Monarch
handler_of E4e = Monarch
handler_of E4f = Monarch
handler_of E4g = Monarch
handler_of E4h = Monarch
handler_of T = Monarch
handler_of E5 = Monarch
handler_of E6 = Monarch
handler_of E7 = Monarch

-- the label's index in its handler; those that look whether an eject went through came last (own rule)
abbrev pub index_of : Label → ℕ
index_of F1 = 0
index_of F2 = 1
index_of F3 = 2
index_of F4 = 3
index_of F5 = 4
index_of F6 = 5
index_of R1 = 0
index_of R2 = 1
index_of R3 = 2
index_of R4 = 3
index_of R5 = 4
index_of R6 = 5
index_of S0 = 0
index_of S1 = 1
index_of S2 = 2
index_of S3 = 3
index_of S4 = 4
index_of C1 = 5
index_of C2 = 6
index_of C3 = 7
index_of C4 = 8
index_of C5 = 9
index_of C6 = 10
index_of NB = 11
index_of N0 = 12
index_of N1 = 13
index_of N2 = 14
index_of N3 = 15
index_of N4 = 16
index_of N5 = 17
index_of N6 = 18
index_of N7 = 19
index_of N8a = 20
index_of N8b = 21
index_of N9 = 22
index_of N10 = 23
index_of N11 = 24
index_of E0 = 25
index_of E1 = 26
index_of E2 = 27
index_of E3 = 28
index_of E4a = 29
index_of E4b = 30
index_of E4c = 31
index_of E4d = 32
index_of E4e = 33
index_of T = 34
index_of E5 = 35
index_of E6 = 36
index_of E7 = 37
index_of E4f = 38
index_of E4g = 39
index_of E4h = 40

-- a mark is 4 bytes; those of a handler follow one another
abbrev pub first_mark : Handler → ℕ
first_mark First = 0x53000001
first_mark Relocated = 0x53000011
first_mark Monarch = 0x53000021

abbrev pub mark_of : Label → ℕ
mark_of l = first_mark (handler_of l) + index_of l

-- all labels, in their order
abbrev pub labels : List Label
labels =
    F1 ∷ F2 ∷ F3 ∷ F4 ∷ F5 ∷ F6
    ∷ R1 ∷ R2 ∷ R3 ∷ R4 ∷ R5 ∷ R6
    ∷ S0 ∷ S1 ∷ S2 ∷ S3 ∷ S4
    ∷ C1 ∷ C2 ∷ C3 ∷ C4 ∷ C5 ∷ C6
    ∷ NB ∷ N0 ∷ N1 ∷ N2 ∷ N3 ∷ N4 ∷ N5 ∷ N6 ∷ N7 ∷ N8a ∷ N8b ∷ N9 ∷ N10 ∷ N11
    ∷ E0 ∷ E1 ∷ E2 ∷ E3 ∷ E4a ∷ E4b ∷ E4c ∷ E4d ∷ E4e ∷ E4f ∷ E4g ∷ E4h
    ∷ T ∷ E5 ∷ E6 ∷ E7 ∷ []

-- the label among these that has this mark
abbrev pub with_mark : ℕ → List Label → Option Label
with_mark found [] = None
with_mark found (l ∷ ls) = if found == mark_of l then Some l else with_mark found ls

unfoldable pub label_with : ℕ → Option Label
label_with found = with_mark found labels

-- where a handler's first cell lies, in slot `slot`: the first handler's past the default SMBASE, the others' in tiles, the monarch's in that of slot 0
abbrev pub first_cell : Platform → Handler → ℕ → ℕ
first_cell p First slot = 0x38000
first_cell p Relocated slot = tile p slot + 0x8000
first_cell p Monarch slot = tile p 0 + 0x8000

-- the 4 bytes where the label's mark stands, and where a processor stands at the label
abbrev pub cell_of : Platform → Label → ℕ → ℕ
cell_of p l slot = first_cell p (handler_of l) slot + 4 * index_of l

-- two labels are one where their marks are
abbrev pub same_label : Label → Label → Bool
same_label l m = mark_of l == mark_of m
