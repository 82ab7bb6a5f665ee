-- The links and the presence of a map's darts as lists for all darts, which the code hands to the
-- functions of `orbits`: a list that is filled with the point links holds the point link, also past its end;
-- so with the present darts; and where the edge links undo themselves, both links permute the present darts.
use mathlib.Core.Path.{◌≡◌, refl, sym, ap, subst, ◌∙◌}
use mathlib.Core.Logic.{⊎_elim}
use mathlib.Core.Bool.{Bool, true, false, cond}
use mathlib.Core.List.{List}
use Prim.Native.Nat.{ℕ, ◌+◌, ◌-◌, ◌≤◌, ◌<◌}
use native.Mathlib.Omega.{arith}
use borrow.Author.Tests.{le-ltb}
use mir.Val.{bool_byte}
use lib.ListN.{length, get_or, set, replicate, get_or-eq_default}
use Rattle.finite.specs.Bounded.{table, lt_or_ge, length_table, get_or_table}
use Rattle.finite.specs.ListLaws.{replicate_at}
use Rattle.finite.specs.Loops.{Filled, one_filled}
use Rattle.orbits.specs.Sets.{dart_limit}
use Rattle.orbits.specs.Links.{Composable, Permutes, Involutes, Permuted, link_of, test_of}
use Rattle.orbits.proofs.Permutations.{involution_permutes}
use Rattle.model.specs.declared.Map.{Map}
use Rattle.model.specs.Maps.{point_limit, own, helper, owner, other_dart, present_by, point_link_by, has_helper, is_present, edge_link, point_link, dart_bound}
use Rattle.model.specs.Shape.{Shaped}
use Rattle.maps.proofs.Darts.{owner_own, owner_helper, other_own, other_helper, present_dart}
use Rattle.maps.proofs.Links.{point_involutes}

-- ---- a loop that writes the point links, two for each point

own_by : (b : Bool) (k : ℕ) → own k + bool_byte b ≡ cond b (other_dart (own k)) (own k)
own_by true k = omega (arith, other_own k)
own_by false k = omega arith

helper_by : (b : Bool) (k : ℕ) → helper k - bool_byte b ≡ cond b (other_dart (helper k)) (helper k)
helper_by true k = omega (arith, other_helper k)
helper_by false k = omega arith

module _ (helped : ℕ → Bool) (k : ℕ) where
  own_linked : own k + bool_byte (helped k) ≡ point_link_by helped (own k)
  own_linked =
      own_by (helped k) k ∙ ap (λ (j : ℕ). cond (helped j) (other_dart (own k)) (own k)) (sym (owner_own k))

  helper_linked : helper k - bool_byte (helped k) ≡ point_link_by helped (helper k)
  helper_linked =
      helper_by (helped k) k ∙ ap (λ (j : ℕ). cond (helped j) (other_dart (helper k)) (helper k)) (sym (owner_helper k))

  pub pair_filled : {links : List ℕ} → Filled (point_link_by helped) 0 dart_limit (own k) links → k < point_limit →
      Filled (point_link_by helped) 0 dart_limit (own (k + 1))
      (set (set links (own k) (own k + bool_byte (helped k))) (helper k) (helper k - bool_byte (helped k)))
  pair_filled {links} f l =
      let first = one_filled (own k) f (omega arith) (own k + bool_byte (helped k)) own_linked in
      subst
      (λ (n : ℕ).
      Filled (point_link_by helped) 0 dart_limit n
      (set (set links (own k) (own k + bool_byte (helped k))) (helper k) (helper k - bool_byte (helped k))))
      (let e : helper k + 1 ≡ own (k + 1) = omega arith in e)
      (one_filled (helper k) first (omega arith) (helper k - bool_byte (helped k)) helper_linked)

-- ---- a loop that asks which darts are present, up to those of the last point

-- a list of no answers holds what is true from there on
pub none_present : (helped : ℕ → Bool) (count : ℕ) (d : ℕ) → own count ≤ d →
    get_or (replicate dart_limit false) d false ≡ present_by helped count d
none_present helped count d h = replicate_at dart_limit false d ∙ sym (rw (le-ltb (owner d) count (omega arith)))

-- ---- what such lists hold

-- a table of a rule that gives the default past the table
get_or_rule : {A : Type 0} (n : ℕ) (f past : ℕ → A) → ((d : ℕ) → n ≤ d → f d ≡ past d) →
    (d : ℕ) → get_or (table n f) d (past d) ≡ f d
get_or_rule n f past beyond d =
    ⊎_elim
    (λ (l : d < n). get_or_table n f d (past d) l)
    (λ (l : n ≤ d). get_or-eq_default (table n f) (past d) (omega (arith, length_table n f)) ∙ sym (beyond d l))
    (lt_or_ge d n)

module _ (m : Map) where
  pub point_table : length m.helpers ≡ point_limit → link_of (table dart_limit (point_link m)) ≡ point_link m
  unfolding point_link has_helper
  point_table whole =
      λ i d.
      get_or_rule dart_limit (point_link m) (λ k. k)
      (λ e l. rw (get_or-eq_default m.helpers false {n = owner e} (omega arith))) d i

  -- .. and of a list that is made so
  pub links_held : length m.helpers ≡ point_limit → {points : List ℕ} → points ≡ table dart_limit (point_link m) →
      link_of points ≡ point_link m
  links_held whole e = ap link_of e ∙ point_table whole

  pub links_whole : {points : List ℕ} → points ≡ table dart_limit (point_link m) → length points ≡ dart_limit
  links_whole e = ap length e ∙ length_table dart_limit (point_link m)

  pub present_table : m.count ≤ point_limit → test_of (table dart_limit (is_present m)) ≡ is_present m
  unfolding is_present
  present_table fits =
      λ i d.
      get_or_rule dart_limit (is_present m) (λ k. false) (λ e l. rw (le-ltb (owner e) m.count (omega arith))) d i

  -- the edge links and then those of a list: from the darts of the last point on nothing moves
  pub composable : Shaped m → {points : List ℕ} → length points ≡ dart_limit →
      Composable m.edge points (dart_bound m) points
  unfolding edge_link
  composable s whole =
      record {
        first_whole = s.links.edge_whole;
        second_whole = whole;
        within = omega (arith, s.links.fits);
        fixed = λ d h. s.links.absent d (λ t. omega (arith, (present_dart m d t).below));
        begun = refl;
      }

  pub tables_permuted : length m.helpers ≡ point_limit → length m.edge ≡ dart_limit → m.count ≤ point_limit →
      Involutes (dart_bound m) (is_present m) (edge_link m) →
      Permuted (dart_bound m) (test_of (table dart_limit (is_present m))) m.edge
      (table dart_limit (point_link m))
  unfolding edge_link
  tables_permuted helpers_whole edge_whole fits i =
      subst (λ (p : ℕ → Bool). Permuted (dart_bound m) p m.edge (table dart_limit (point_link m)))
      (sym (present_table fits))
      (record {
        within = omega arith;
        first = record { whole = edge_whole; permutes = involution_permutes i };
        second =
            record {
              whole = length_table dart_limit (point_link m);
              permutes =
                  subst (Permutes (dart_bound m) (is_present m)) (sym (point_table helpers_whole))
                  (involution_permutes (point_involutes m));
            };
      })
