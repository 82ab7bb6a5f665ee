-- Walks in a sound map, in the order of this page: what a walk asks of the links; a walk makes no more
-- moves than there are darts and never runs out of them; from a dart of the outline it comes home after
-- twice as many moves as there are corners; from every other dart it ends loose.
-- Document 01: "It ends home when a point step reaches its start, or loose when an edge step is due at a
-- dart with a fixed edge link. It gives the last dart, the ending and the moves made, never more than
-- there are darts."
-- From an own dart the edge link leads to the helper of the next corner and the point link to its own
-- dart: a walk goes round the outline. From a helper it goes round the other way.
use mathlib.Core.Path.{◌≡◌, refl, sym, ap, subst, ◌∙◌}
use mathlib.Core.Logic.{◌≢◌, ⊎_elim}
use mathlib.Core.Bool.{not}
use mathlib.Core.List.{List, ◌∷◌, ◌++◌}
use Prim.Native.Nat.{ℕ, ◌+◌, ◌*◌, ◌≤◌, ◌<◌}
use native.Mathlib.Nat.{le_refl}
use native.Mathlib.Omega.{arith}
use lib.Dec.{T, T_not}
use lib.ListN.{length, length-append}
use Rattle.finite.specs.Tests.{decide}
use Rattle.finite.specs.Bounded.{lt_or_ge}
use Rattle.finite.specs.Lists.{elem}
use Rattle.finite.specs.ListLaws.{elem_head, elem_tail, elem_cases, elem_cut}
use Rattle.finite.specs.Distinct.{distinct_head}
use Rattle.finite.specs.CycleLaws.{cycle_change}
use Rattle.finite.specs.Reversal.{Converse, Reversed, cycle_reversed}
use Rattle.orbits.specs.Reach.{here}
use Rattle.orbits.specs.Walks.{ends, walk}
use Rattle.orbits.specs.declared.Walk.{Walk}
use Rattle.orbits.specs.declared.Ending.TheVariants.{Home}
use Rattle.orbits.proofs.Classes.{closed_iff}
use Rattle.orbits.proofs.Walks.{OpenEnds, EndedLoose, open_ends_by, walk_within, walk_loose, walk_enough}
use Rattle.orbits.proofs.Moves.{Leads, walk_ring}
use Rattle.model.specs.declared.Map.{Map}
use Rattle.model.specs.Maps.{own, helper, owner, has_helper, is_present, edge_link, point_link}
use Rattle.model.specs.Outline.{outline}
use Rattle.model.specs.Reading.{darts}
use Rattle.model.specs.Shape.{Shaped}
use Rattle.maps.proofs.Darts.{own_differs, own_injective, helper_injective, own_or_helper, by_present, present_dart, point_own, point_helper, point_lone}
use Rattle.maps.proofs.Links.{Linked, sound_linked, edge_involutes, point_involutes, links_keep}
use Rattle.maps.proofs.Circuits.{Edge, Circuit, edge_back, circuit_dart}
use Rattle.maps.proofs.Outline.{outline_two, outline_circuit, outline_rotated}
use Rattle.maps.proofs.Outline.{outline_reach, closed_reached}

-- the walk from a dart
abbrev pub walk_from : Map → ℕ → Walk
walk_from m d = walk (edge_link m) (point_link m) (darts m) d

-- ---- round a circuit

module _ {m : Map} (l : Linked m) (a : ℕ) (t : List ℕ) (c : Circuit m (a ∷ t)) where
  new : (x : ℕ) → T (elem x t) → x ≢ a
  new x h e = distinct_head a t c.all_distinct (subst (λ (y : ℕ). T (elem y t)) e h)

  -- from own dart to own dart along the edges
  own_home : (k : ℕ) → 2 * length (a ∷ t) ≤ k →
      walk (edge_link m) (point_link m) k (own a) ≡ ends Home (own a) (2 * length (a ∷ t))
  own_home k =
      walk_ring (edge_link m) (point_link m) own a t k
      (cycle_change (Edge m) (λ x y. Leads (edge_link m) (point_link m) (own x) (own y)) (a ∷ t)
      (λ x y h i e. (
        λ same. own_differs x y (sym same ∙ e),
        ap (point_link m) e ∙ point_helper m y (c.helped y i),
      ))
      c.edges)
      (λ x h e. new x h (own_injective e))

  -- from helper to helper against them
  reversed : Reversed (Edge m) a t
  reversed = cycle_reversed (Edge m) a t c.edges

  on_circuit : (x : ℕ) → T (elem x (a ∷ reversed.list)) → T (elem x (a ∷ t))
  on_circuit x h =
      ⊎_elim
      (λ (e : x ≡ a). rw e (elem_head a t))
      (λ (i : T (elem x reversed.list)). elem_tail x a t (reversed.members x i))
      (elem_cases x a reversed.list h)

  helper_home : (k : ℕ) → 2 * length (a ∷ t) ≤ k →
      walk (edge_link m) (point_link m) k (helper a) ≡ ends Home (helper a) (2 * length (a ∷ t))
  helper_home k enough =
      let same : 2 * length (a ∷ reversed.list) ≡ 2 * length (a ∷ t) = omega (arith, reversed.same_length) in
      walk_ring (edge_link m) (point_link m) helper a reversed.list k
      (cycle_change (Converse (Edge m)) (λ x y. Leads (edge_link m) (point_link m) (helper x) (helper y))
      (a ∷ reversed.list)
      (λ x y h i e.
      let leads = edge_back l y x e in (
        λ fixed. own_differs y x (sym leads ∙ fixed),
        ap (point_link m) leads ∙ point_own m y (c.helped y (on_circuit y i)),
      ))
      reversed.cycle)
      (λ x h e. new x (reversed.members x h) (helper_injective e)) (omega arith)
      ∙ ap (ends Home (helper a)) same

  -- so from each of its darts
  circuit_home : (d : ℕ) → owner d ≡ a → (k : ℕ) → 2 * length (a ∷ t) ≤ k →
      walk (edge_link m) (point_link m) k d ≡ ends Home d (2 * length (a ∷ t))
  circuit_home d e k enough =
      ⊎_elim
      (λ (i : d ≡ own (owner d)). rw (i ∙ ap own e) (own_home k enough))
      (λ (i : d ≡ helper (owner d)). rw (i ∙ ap helper e) (helper_home k enough))
      (own_or_helper d)

-- ---- in a sound map

module _ {m : Map} (s : Shaped m) where
  -- the point link fixes only what the edge link fixes: a point without helper has a fixed own dart
  open_ends : (d : ℕ) → T (is_present m d) → OpenEnds (edge_link m) (point_link m) d
  open_ends d there =
      open_ends_by (edge_involutes (sound_linked s)) (point_involutes m) (λ e h. lone e h.is_present)
      (present_dart m d there)
    where
      lone : (e : ℕ) → T (is_present m e) → point_link m e ≡ e → edge_link m e ≡ e
      lone =
          by_present m (λ e. point_link m e ≡ e → edge_link m e ≡ e)
          (λ k h fixed.
          ⊎_elim
          (λ (t : T (has_helper m k)). absurd (own_differs k k (sym fixed ∙ point_own m k t)))
          (λ (t : T (not (has_helper m k))). s.links.lone k (T_not (has_helper m k) t))
          (decide (has_helper m k)))
          (λ k h t fixed. absurd (own_differs k k (sym (point_helper m k t) ∙ fixed)))

  module _ (d : ℕ) (there : T (is_present m d)) where
    -- never more moves than there are darts
    pub walk_moves : (walk_from m d).moves ≤ darts m
    unfolding darts
    walk_moves =
        walk_within (edge_involutes (sound_linked s)) (point_involutes m) (present_dart m d there) (darts m)
        (le_refl (darts m)) (open_ends d there)

    -- a walk never runs out of moves: with more moves left it ends the same way
    pub walk_never_runs_out : (k : ℕ) → darts m ≤ k → walk (edge_link m) (point_link m) k d ≡ walk_from m d
    unfolding darts
    walk_never_runs_out =
        walk_enough (edge_involutes (sound_linked s)) (point_involutes m) (present_dart m d there) (open_ends d there)

  -- ---- from a dart of the outline

  module _ (d : ℕ) (on : T (elem (owner d) (outline m))) where
    two : 2 ≤ m.count
    two = outline_two m (owner d) on

    outline_dart : T (is_present m d)
    outline_dart = (circuit_dart (outline_circuit s two) d on).is_present

    outline_home : (k : ℕ) → 2 * length (outline m) ≤ k →
        walk (edge_link m) (point_link m) k d ≡ ends Home d (2 * length (outline m))
    outline_home k enough =
        let cut = elem_cut (owner d) (outline m) on in
        let u = cut.0 in
        let v = cut.1 in
        let c = outline_rotated s two u (owner d ∷ v) (owner d ∷ v ++ u) cut.2 refl in
        let same : length (owner d ∷ v ++ u) ≡ length (outline m) =
        omega (arith, ap length cut.2, length-append u (owner d ∷ v), length-append v u) in
        circuit_home (sound_linked s) (owner d) (v ++ u) c d refl k (omega arith)
        ∙ ap (λ (n : ℕ). ends Home d (2 * n)) same

    -- two darts for each corner
    outline_moves : 2 * length (outline m) ≤ darts m
    outline_moves =
        let k = darts m + 2 * length (outline m) in
        let home = outline_home k (omega arith) in
        omega (
          arith,
          walk_moves d outline_dart,
          ap (λ (w : Walk). w.moves) (sym home ∙ walk_never_runs_out d outline_dart k (omega arith)),
        )

    -- a walk comes home after twice as many moves as there are corners
    pub walk_on_outline : walk_from m d ≡ ends Home d (2 * length (outline m))
    walk_on_outline = outline_home (darts m) outline_moves

  -- ---- from every other dart

  pub walk_off_outline : (d : ℕ) → T (is_present m d) → ¬ T (elem (owner d) (outline m)) →
      EndedLoose (edge_link m) (point_link m) d (walk_from m d)
  unfolding darts
  walk_off_outline d there off =
      walk_loose (edge_involutes (sound_linked s)) (point_involutes m) (present_dart m d there) (darts m)
      (le_refl (darts m)) (open_ends d there)
      (λ closed.
      ⊎_elim
      (λ (few : m.count < 2).
      ((closed_iff (links_keep (sound_linked s)) (present_dart m d there)).0 closed d here).1
      (point_lone m d ((s.bare few).no_helper (owner d))))
      (λ (two : 2 ≤ m.count). off ((outline_reach s two d).0 (closed_reached s two d there closed)))
      (lt_or_ge m.count 2))
