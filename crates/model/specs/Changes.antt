-- What an offered point changes, place by place, in the order of this page: a link with two darts
-- joined, and one with darts parted; a map that has one point more, with every field named at every
-- place; the changes of each arrival and of a refusal. Document 01, "Orientation and arrival":
-- that "Nothing else changes" is `Changes m p (arrival_of (offer m p)) (map_after m (offer m p))` for every
-- map m and point p.
use Rattle.std.specs.Prelude.{◌≡◌, ◌≢◌, Bool, false, cond, ◌||◌, ℕ, suc, ◌≤◌, T, ltb, eqb}
use Rattle.std.specs.declared.result.Result.{Result}
use Rattle.std.specs.declared.result.Result.TheVariants.{Ok, Err}
use Rattle.model.specs.declared.Refusal.{Refusal}
use Rattle.model.specs.declared.Point.{Point}
use Rattle.model.specs.declared.Note.{Note}
use Rattle.model.specs.declared.Map.{Map}
use Rattle.model.specs.declared.Arrival.{Arrival}
use Rattle.model.specs.Maps.{no_dart, own, helper, point, has_helper, edge_link, point_link, note}
use Rattle.model.specs.Outline.{visible_edges}
use Rattle.model.specs.Arrival.{first_kind, second_kind, inside_kind, freeing_none, freeing, left_corner, right_corner}

-- the link that leads from a to b and from b to a, and else as before
abbrev pub joined : ℕ → ℕ → (ℕ → ℕ) → ℕ → ℕ
joined a b link d = cond (eqb d a) b (cond (eqb d b) a (link d))

-- the link that fixes each dart that was linked with a or b, and else leads as before
abbrev pub parted : ℕ → ℕ → (ℕ → ℕ) → ℕ → ℕ
parted a b link d = cond (eqb (link d) a || eqb (link d) b) d (link d)

-- the helpers, and one for point k
abbrev pub with_helper : ℕ → (ℕ → Bool) → ℕ → Bool
with_helper k helped j = eqb j k || helped j

-- m' is m with p as its next point, of which this is noted, and has these helpers, point links, edge links
-- and reference
pub record Grown (m : Map) (p : Point) (noted : Note)
    (helped : ℕ → Bool) (point_links edge_links : ℕ → ℕ) (dart : ℕ) (m' : Map) : Type 0 where
  pub count : m'.count ≡ suc m.count
  pub new_point : point m' m.count ≡ p
  pub old_points : (k : ℕ) → k ≢ m.count → point m' k ≡ point m k
  pub new_note : note m' m.count ≡ noted
  pub old_notes : (k : ℕ) → k ≢ m.count → note m' k ≡ note m k
  pub helpers : (k : ℕ) → has_helper m' k ≡ helped k
  pub points_linked : (d : ℕ) → point_link m' d ≡ point_links d
  pub edges_linked : (d : ℕ) → edge_link m' d ≡ edge_links d
  pub reference : m'.reference ≡ dart

-- "Point 0 is the arrival "first": one dart, both links fixed."
abbrev pub FirstGrown : Map → Point → Map → Type 0
FirstGrown m p = Grown m p (freeing_none first_kind) (λ k. false) (λ d. d) (λ d. d) no_dart

-- "Point 1 is "second": edge links 0-3 and 2-1, point links 0-1 and 2-3, reference 2."
abbrev pub SecondGrown : Map → Point → Map → Type 0
SecondGrown m p =
    Grown m p (freeing_none second_kind) (λ k. ltb k 2) (joined 0 1 (joined 2 3 (λ d. d)))
    (joined 0 3 (joined 2 1 (λ d. d)))
    2

-- "dart 2k alone, fixed, reference kept": all is as before, and point k is `Lone`
abbrev pub InsideGrown : Map → Point → Map → Type 0
InsideGrown m p = Grown m p (freeing_none inside_kind) (has_helper m) (point_link m) (edge_link m) m.reference

pub record Lone (m : Map) (k : ℕ) : Type 0 where
  pub no_helper : ¬ T (has_helper m k)
  pub point_fixed : point_link m (own k) ≡ own k
  pub edge_fixed : edge_link m (own k) ≡ own k

-- "The left corner's own dart l and the right corner's helper r lose their edge partners, which become
-- fixed unless they are l and r themselves. New edge links are l with 2k + 1, and 2k with r; new point
-- link 2k with 2k + 1; reference 2k. Nothing else changes."
abbrev pub OutsideGrown : Map → Point → ℕ → ℕ → Map → Type 0
OutsideGrown m p left right =
    let k = m.count in
    let l = own left in
    let r = helper right in
    Grown m p (freeing m left right) (with_helper k (has_helper m)) (joined (own k) (helper k) (point_link m))
    (joined l (helper k) (joined (own k) r (parted l r (edge_link m))))
    (own k)

-- what each answer of an offer means for the map
pub data Changes (m : Map) (p : Point) : Result Arrival Refusal → Map → Type 0 where
  first : {m' : Map} → m.count ≡ 0 → FirstGrown m p m' → Changes m p (Ok Arrival.First) m'
  second : {m' : Map} → m.count ≡ 1 → SecondGrown m p m' → Changes m p (Ok Arrival.Second) m'
  inside : {m' : Map} → 2 ≤ m.count → visible_edges m p ≡ 0 →
      InsideGrown m p m' → Lone m' m.count → Changes m p (Ok Arrival.Inside) m'
  outside : {m' : Map} → 2 ≤ m.count → visible_edges m p ≢ 0 →
      OutsideGrown m p (left_corner m p) (right_corner m p) m' →
      Changes m p (Ok (Arrival.Outside (left_corner m p) (right_corner m p) (visible_edges m p))) m'
  refused : (r : Refusal) → Changes m p (Err r) m
