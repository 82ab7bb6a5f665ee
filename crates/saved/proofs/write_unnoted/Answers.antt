-- `saved::write_unnoted` meets its contract: block after block, each over what follows the blocks before it.
use borrow.Author.Rules.{rules}
use mathlib.Core.Path.{◌≡◌, sym, ◌∙◌}
use mathlib.Core.List.{List, ◌++◌}
use Prim.Native.Nat.{ℕ, ◌*◌}
use native.Mathlib.Omega.{arith}
use lib.ListN.{length, length-append}
use Rattle.finite.specs.Bounded.{one_if}
use Rattle.model.specs.declared.Map.{Map}
use Rattle.model.specs.Maps.{has_helper, edge_link}
use Rattle.model.specs.Saved.{header, header_length, helpers_place, links_place, complement, coordinate, block}
use Rattle.layout.proofs.Blocks.{length_block, piece_written}
use Rattle.saved.specs.Fields.{unnoted}
use Rattle.saved.proofs.Places.{length_header}
use Rattle.saved.proofs.write_unnoted.Goals as goal

-- the header and the blocks, up to each
module _ (v : ℕ) (m : Map) where
  abbrev coordinates : List ℕ
  coordinates = block (2 * m.count) 4 (λ i. complement (coordinate m i))

  abbrev helpers : List ℕ
  helpers = block m.count 1 (λ k. one_if (has_helper m k))

  abbrev links : List ℕ
  links = block (2 * m.count) 2 (edge_link m)

  abbrev first_1 : List ℕ
  first_1 = header v m.count m.reference

  abbrev first_2 : List ℕ
  first_2 = first_1 ++ coordinates

  abbrev first_3 : List ℕ
  first_3 = first_2 ++ helpers

  length_2 : helpers_place m.count ≡ length first_2
  length_2 =
      simp length-append
      (omega (arith, length_header v m, length_block (2 * m.count) 4 (λ i. complement (coordinate m i))))

  length_3 : links_place m.count ≡ length first_3
  length_3 =
      simp length-append
      (omega (
        arith,
        length_header v m,
        length_block (2 * m.count) 4 (λ i. complement (coordinate m i)),
        length_block m.count 1 (λ k. one_if (has_helper m k)),
      ))

pub returns : goal.returns
unfolding unnoted one_if
returns c =
    let m = c.args.sound.map.now in
    let v = c.args.version in
    let before = c.args.lent.now in
    let after-2 =
    piece_written (first_1 v m) (coordinates v m) before header_length _ _
    c.write_header.ensures (sym (length_header v m)) (omega arith)
    (c.write_block.ensures (λ i. complement (coordinate m i)) (λ i r l p. search rules)) in
    let after-3 =
    piece_written (first_2 v m) (helpers v m) before c.helpers_place-helpers_start.result _ _
    after-2 (c.helpers_place-helpers_start.ensures ∙ length_2 v m)
    (omega (arith, c.helpers_place-helpers_start.ensures))
    (c.write_block-2.ensures (λ k. one_if (has_helper m k)) (λ k r l p. search rules)) in
    piece_written (first_3 v m) (links v m) before c.links_place-links_start.result _ _
    after-3 (c.links_place-links_start.ensures ∙ length_3 v m)
    (omega (arith, c.links_place-links_start.ensures))
    (c.write_block-3.ensures (edge_link m) (λ d r l p. search rules))
