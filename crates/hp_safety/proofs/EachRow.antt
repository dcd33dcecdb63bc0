-- A fact of each row, one field a label.
use Rattle.hp_model.specs.declared.labels.Label.{Label}
use Rattle.hp_model.specs.declared.labels.Label.TheVariants.{F1, F2, F3, F4, F5, F6, R1, R2, R3, R4, R5, R6, S0, S1, S2, S3, S4, C1, C2, C3, C4, C5, C6, NB, N0, N1, N2, N3, N4, N5, N6, N7, N8a, N8b, N9, N10, N11, E0, E1, E2, E3, E4a, E4b, E4c, E4d, E4e, E4f, E4g, E4h, T, E5, E6, E7}
use Rattle.hp_model.specs.Labels.{handler_of}
use Rattle.hp_safety.proofs.Needs.{need_of, Facts, Needs}

pub record EachRow (P : Label → Type 0) : Type 0 where
  pub f1 : P F1
  pub f2 : P F2
  pub f3 : P F3
  pub f4 : P F4
  pub f5 : P F5
  pub f6 : P F6
  pub r1 : P R1
  pub r2 : P R2
  pub r3 : P R3
  pub r4 : P R4
  pub r5 : P R5
  pub r6 : P R6
  pub s0 : P S0
  pub s1 : P S1
  pub s2 : P S2
  pub s3 : P S3
  pub s4 : P S4
  pub c1 : P C1
  pub c2 : P C2
  pub c3 : P C3
  pub c4 : P C4
  pub c5 : P C5
  pub c6 : P C6
  pub nb : P NB
  pub n0 : P N0
  pub n1 : P N1
  pub n2 : P N2
  pub n3 : P N3
  pub n4 : P N4
  pub n5 : P N5
  pub n6 : P N6
  pub n7 : P N7
  pub n8a : P N8a
  pub n8b : P N8b
  pub n9 : P N9
  pub n10 : P N10
  pub n11 : P N11
  pub e0 : P E0
  pub e1 : P E1
  pub e2 : P E2
  pub e3 : P E3
  pub e4a : P E4a
  pub e4b : P E4b
  pub e4c : P E4c
  pub e4d : P E4d
  pub e4e : P E4e
  pub e4f : P E4f
  pub e4g : P E4g
  pub e4h : P E4h
  pub t : P T
  pub e5 : P E5
  pub e6 : P E6
  pub e7 : P E7

pub row_of_each : (P : Label → Type 0) → EachRow P → (f : Facts) (l : Label) → Needs f (handler_of l) (need_of l) → P l
row_of_each P h f F1 is = h.f1
row_of_each P h f F2 is = h.f2
row_of_each P h f F3 is = h.f3
row_of_each P h f F4 is = h.f4
row_of_each P h f F5 is = h.f5
row_of_each P h f F6 is = h.f6
row_of_each P h f R1 is = h.r1
row_of_each P h f R2 is = h.r2
row_of_each P h f R3 is = h.r3
row_of_each P h f R4 is = h.r4
row_of_each P h f R5 is = h.r5
row_of_each P h f R6 is = h.r6
row_of_each P h f S0 is = h.s0
row_of_each P h f S1 is = h.s1
row_of_each P h f S2 is = h.s2
row_of_each P h f S3 is = h.s3
row_of_each P h f S4 is = h.s4
row_of_each P h f C1 is = h.c1
row_of_each P h f C2 is = h.c2
row_of_each P h f C3 is = h.c3
row_of_each P h f C4 is = h.c4
row_of_each P h f C5 is = h.c5
row_of_each P h f C6 is = h.c6
row_of_each P h f NB is = h.nb
row_of_each P h f N0 is = h.n0
row_of_each P h f N1 is = h.n1
row_of_each P h f N2 is = h.n2
row_of_each P h f N3 is = h.n3
row_of_each P h f N4 is = h.n4
row_of_each P h f N5 is = h.n5
row_of_each P h f N6 is = h.n6
row_of_each P h f N7 is = h.n7
row_of_each P h f N8a is = h.n8a
row_of_each P h f N8b is = h.n8b
row_of_each P h f N9 is = h.n9
row_of_each P h f N10 is = h.n10
row_of_each P h f N11 is = h.n11
row_of_each P h f E0 is = h.e0
row_of_each P h f E1 is = h.e1
row_of_each P h f E2 is = h.e2
row_of_each P h f E3 is = h.e3
row_of_each P h f E4a is = h.e4a
row_of_each P h f E4b is = h.e4b
row_of_each P h f E4c is = h.e4c
row_of_each P h f E4d is = h.e4d
row_of_each P h f E4e is = h.e4e
row_of_each P h f E4f is = h.e4f
row_of_each P h f E4g is = h.e4g
row_of_each P h f E4h is = h.e4h
row_of_each P h f T is = h.t
row_of_each P h f E5 is = h.e5
row_of_each P h f E6 is = h.e6
row_of_each P h f E7 is = h.e7
