-- The edge links before an outside point k are found again (`unspliced_back`): with k's two darts fixed,
-- and the left corner's own dart l and the right corner's helper r joined again with the darts that k
-- freed, or with each other, every dart leads where it led before k came.
use mathlib.Core.Path.{◌≡◌, sym, ap, ◌∙◌}
use mathlib.Core.Logic.{◌≢◌, ⊎_elim}
use mathlib.Core.List.{List}
use Prim.Native.Nat.{ℕ, ◌≤◌, ◌<◌}
use native.Mathlib.Omega.{arith}
use borrow.Author.Tests.{eq-eqb, ne_eqb}
use lib.Dec.{T}
use lib.ListN.{length}
use Rattle.finite.specs.Tests.{same_or_not}
use Rattle.finite.specs.Lists.{elem}
use Rattle.orbits.specs.Sets.{dart_limit}
use Rattle.orbits.specs.Links.{link_of}
use Rattle.model.specs.declared.Map.{Map}
use Rattle.model.specs.Maps.{point_limit, no_dart, own, helper, owner, edge_link}
use Rattle.model.specs.Outline.{next_corner, previous_corner, outline}
use Rattle.model.specs.Shape.{Shaped}
use Rattle.model.specs.Arrival.{cut, join, freeing}
use Rattle.maps.proofs.Darts.{present_owner}
use Rattle.maps.proofs.Edges.{length_cut, cut_same, cut_other, length_join, join_first, join_second, join_other}
use Rattle.maps.proofs.Outline.{outline_circuit, outline_next, outline_previous}
use Rattle.maps.proofs.Same.{same_links}
use Rattle.maps.proofs.Splice.{Splices}
use Rattle.removal.specs.Unlinking.{unspliced}

-- ---- what the code makes: l and r are the partners of k's two darts

module _ (k left right : ℕ) (edge : List ℕ) (l r : ℕ) (at_helper : l ≡ link_of edge (helper k)) (at_own : r ≡ link_of edge (own k)) where
  pub joined_alone : left ≡ no_dart → join l r (cut r (cut l edge)) ≡ unspliced k left right edge
  unfolding unspliced
  joined_alone e = rw (eq-eqb left no_dart e, at_helper, at_own)

  pub joined_freed : left ≢ no_dart → join r right (join l left (cut r (cut l edge))) ≡ unspliced k left right edge
  unfolding unspliced
  joined_freed n = rw (ne_eqb left no_dart n, at_helper, at_own)

-- ---- the edge links before

module _ {b m : Map} (s : Shaped b) (two : 2 ≤ b.count) (room : b.count < point_limit) {left right : ℕ}
    (z : Splices b m left right) (on_left : T (elem left (outline b))) (on_right : T (elem right (outline b)))
  where
    abbrev k : ℕ
    k = b.count

    abbrev l : ℕ
    l = own left

    abbrev r : ℕ
    r = helper right

    left_below : left < k
    left_below = (outline_circuit s two).below left on_left

    right_below : right < k
    right_below = (outline_circuit s two).below right on_right

    -- the partners that l and r lose
    partner_left : edge_link b l ≡ helper (next_corner b left)
    partner_left = (outline_next s two left on_left).0

    partner_right : edge_link b r ≡ own (previous_corner b right)
    partner_right = (outline_previous s two right on_right).0

    next_below : next_corner b left < k
    next_below = (outline_circuit s two).below (next_corner b left) (outline_next s two left on_left).1

    previous_below : previous_corner b right < k
    previous_below = (outline_circuit s two).below (previous_corner b right) (outline_previous s two right on_right).1

    -- the links with the two darts of k fixed
    abbrev parted : List ℕ
    parted = cut r (cut l m.edge)

    parted_whole : length parted ≡ dart_limit
    parted_whole = length_cut r (cut l m.edge) ∙ (length_cut l m.edge ∙ z.edge_whole)

    right_partner : link_of (cut l m.edge) r ≡ own k
    unfolding edge_link
    right_partner =
        cut_other l r m.edge (λ e. let at = z.at_left in omega (arith, right_below)) ∙ z.at_right

    parted_own : link_of parted (own k) ≡ own k
    parted_own = cut_same r (own k) (cut l m.edge) (sym right_partner)

    parted_helper : link_of parted (helper k) ≡ helper k
    unfolding edge_link
    parted_helper =
        cut_other r (helper k) (cut l m.edge) (λ e. let at = right_partner in omega arith)
        ∙ cut_same l (helper k) m.edge (sym z.at_left)

    parted_other : (d : ℕ) → d ≢ own k → d ≢ helper k → link_of parted d ≡ edge_link m d
    unfolding edge_link
    parted_other d i j =
        cut_other r d (cut l m.edge) (λ e. i (e ∙ right_partner))
        ∙ cut_other l d m.edge (λ e. j (e ∙ z.at_left))

    -- the new darts were fixed
    new_fixed : (d : ℕ) → k ≤ owner d → edge_link b d ≡ d
    new_fixed d h = s.links.absent d (λ t. omega (arith, present_owner b d t))

    -- a dart that is neither l nor r, nor was linked with one of them, leads where it led
    parted_back : (d : ℕ) → d ≢ l → d ≢ r → edge_link b d ≢ l → edge_link b d ≢ r → link_of parted d ≡ edge_link b d
    parted_back d not_l not_r not_to_l not_to_r =
        ⊎_elim (λ (e : d ≡ own k). rw e (parted_own ∙ sym (new_fixed (own k) (omega arith))))
        (λ (i : d ≢ own k).
        ⊎_elim (λ (e : d ≡ helper k). rw e (parted_helper ∙ sym (new_fixed (helper k) (omega arith))))
        (λ (j : d ≢ helper k).
        parted_other d i j
        ∙ z.elsewhere d
        (record {
          not_left = not_l;
          not_right = not_r;
          not_own = i;
          not_helper = j;
          not_to_left = not_to_l;
          not_to_right = not_to_r;
        }))
        (same_or_not d (helper k)))
        (same_or_not d (own k))

    -- who leads to x is where x leads
    back : (x d : ℕ) → edge_link b d ≡ x → d ≡ edge_link b x
    back x d e = sym (s.links.undone d) ∙ ap (edge_link b) e

    -- l and r were each other's partner
    none_freed : edge_link b l ≡ r → (d : ℕ) → link_of (join l r parted) d ≡ edge_link b d
    none_freed e d =
        ⊎_elim (λ (i : d ≡ l). rw i (join_first l r parted (λ x. omega arith) (omega (arith, parted_whole, left_below)) ∙ sym e))
        (λ (i : d ≢ l).
        ⊎_elim (λ (j : d ≡ r). rw j (join_second l r parted (omega (arith, parted_whole, right_below)) ∙ back r l e))
        (λ (j : d ≢ r).
        join_other l r parted d i j
        ∙ parted_back d i j (λ t. j (back l d t ∙ e)) (λ t. i (back r d t ∙ sym (back r l e))))
        (same_or_not d r))
        (same_or_not d l)

    -- their partners were freed
    abbrev u : ℕ
    u = edge_link b l

    abbrev v : ℕ
    v = edge_link b r

    some_freed : (d : ℕ) → link_of (join r v (join l u parted)) d ≡ edge_link b d
    some_freed d =
        let whole = length_join l u parted in
        ⊎_elim
        (λ (i : d ≡ r).
        rw i (join_first r v (join l u parted) (λ x. omega (arith, partner_right)) (omega (arith, whole, parted_whole, right_below))))
        (λ (i : d ≢ r).
        ⊎_elim
        (λ (j : d ≡ v).
        rw j
        (join_second r v (join l u parted) (omega (arith, whole, parted_whole, partner_right, previous_below)) ∙ sym (s.links.undone r)))
        (λ (j : d ≢ v).
        join_other r v (join l u parted) d i j
        ∙ ⊎_elim
        (λ (x : d ≡ l). rw x (join_first l u parted (λ y. omega (arith, partner_left)) (omega (arith, parted_whole, left_below))))
        (λ (x : d ≢ l).
        ⊎_elim
        (λ (y : d ≡ u).
        rw y (join_second l u parted (omega (arith, parted_whole, partner_left, next_below)) ∙ sym (s.links.undone l)))
        (λ (y : d ≢ u).
        join_other l u parted d x y ∙ parted_back d x i (λ t. y (back l d t)) (λ t. j (back r d t)))
        (same_or_not d u))
        (same_or_not d l))
        (same_or_not d v))
        (same_or_not d r)

    pub unspliced_back : unspliced k (freeing b left right).left (freeing b left right).right m.edge ≡ b.edge
    unfolding unspliced edge_link
    unspliced_back =
        rw (z.at_helper, z.at_own)
        (⊎_elim
        (λ (e : u ≡ r).
        rw (eq-eqb u r e)
        (same_links (join l r parted) b.edge (length_join l r parted ∙ (parted_whole ∙ sym s.links.edge_whole))
        (none_freed e)))
        (λ (n : u ≢ r).
        let m : v ≢ l = λ e. n (sym (back l r e)) in
        let some : u ≢ no_dart = λ e. omega (arith, partner_left, next_below) in
        rw (ne_eqb u r n, ne_eqb v l m, ne_eqb u no_dart some)
        (same_links (join r v (join l u parted)) b.edge
        (length_join r v (join l u parted) ∙ (length_join l u parted ∙ (parted_whole ∙ sym s.links.edge_whole)))
        some_freed))
        (same_or_not u r))

    -- where it freed darts, both are darts
    pub both_freed : (freeing b left right).left ≢ no_dart → (freeing b left right).right < dart_limit
    both_freed some =
        let n : u ≢ r = λ e. some (rw (eq-eqb u r e)) in
        let m : v ≢ l = λ e. n (sym (back l r e)) in
        rw (ne_eqb v l m) (omega (arith, partner_right, previous_below))
