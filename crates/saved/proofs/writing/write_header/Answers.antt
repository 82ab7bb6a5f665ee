-- `saved::writing::write_header` meets its contract: number after number, each over what follows
-- the numbers before it.
use mathlib.Core.Path.{refl, ap, ◌∙◌}
use mathlib.Core.List.{List, ◌++◌}
use Prim.Native.Nat.{ℕ, ◌-◌}
use native.Mathlib.Omega.{arith}
use Rattle.model.specs.Saved.{big_endian, version_place, count_place, reference_place}
use Rattle.model.specs.Saved.{following, header}
use Rattle.finite.specs.Overwriting.{over}
use Rattle.layout.proofs.Blocks.{piece_written}
use Rattle.saved.proofs.writing.write_header.Goals as goal

-- the first numbers of the header
abbrev first_1 : ℕ → ℕ → List ℕ
first_1 v n = big_endian 4 (following v n)

abbrev first_2 : ℕ → ℕ → List ℕ
first_2 v n = first_1 v n ++ big_endian 1 v

abbrev first_3 : ℕ → ℕ → List ℕ
first_3 v n = first_2 v n ++ big_endian 2 n

pub returns : goal.returns
unfolding big_endian header
returns c = let s = c.args in
    let v = s.version in
    let n = s.count in
    let before = s.lent.now in
    let after-1 =
    c.put_number.ensures
    ∙ ap (λ (l : ℕ). over (big_endian 4 (l - version_place)) before)
    c.saved_length-following.ensures in
    let after-2 =
    piece_written (first_1 v n) (big_endian 1 v) before version_place _ _ after-1 refl
    (omega arith) c.put_number-2.ensures in
    let after-3 =
    piece_written (first_2 v n) (big_endian 2 n) before count_place _ _ after-2 refl
    (omega arith) c.put_number-3.ensures in
    piece_written (first_3 v n) (big_endian 2 s.reference) before reference_place _ _ after-3 refl
    (omega arith) c.put_number-4.ensures
