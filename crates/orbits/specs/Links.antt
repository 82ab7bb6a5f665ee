-- Links, in the order of this page: the link that a list holds; two links one after the other; lists
-- whose links lead from a dart to darts alone; darts, which are below a bound and present; links that
-- keep the darts, permute them, or undo themselves on them; lists that hold permutations.
use Rattle.std.specs.Prelude.{◌≡◌, Bool, false, List, ℕ, ◌≤◌, ◌<◌, T, length, get_or}
use Rattle.finite.specs.Lists.{elem}
use Rattle.orbits.specs.Reach.{by_two, StaysBelow}
use Rattle.orbits.specs.Sets.{dart_limit}

-- where the link of dart d leads; a number past the list is left where it is
abbrev pub link_of : List ℕ → ℕ → ℕ
link_of s d = get_or s d d

-- the test that a list of answers holds; it fails past the list
abbrev pub test_of : List Bool → ℕ → Bool
test_of s d = get_or s d false

-- f and then g
infixl 60 ◌then◌
abbrev pub ◌then◌ : (ℕ → ℕ) → (ℕ → ℕ) → ℕ → ℕ
(f then g) d = g (f d)

-- a list for all darts, whose link is that of f and then that of g
pub record Composed (f g h : List ℕ) : Type 0 where
  pub whole : length h ≡ dart_limit
  pub leads : link_of h ≡ link_of f then link_of g

-- the links of f and g, of which f moves nothing from n on, beside a list that holds g
pub record Composable (f g : List ℕ) (n : ℕ) (both : List ℕ) : Type 0 where
  pub first_whole : length f ≡ dart_limit
  pub second_whole : length g ≡ dart_limit
  pub within : n ≤ dart_limit
  pub fixed : (d : ℕ) → n ≤ d → link_of f d ≡ d
  pub begun : both ≡ g

-- lists for all darts, whose links lead from d to darts alone
pub record Followable (f g : List ℕ) (d : ℕ) : Type 0 where
  pub first_whole : length f ≡ dart_limit
  pub second_whole : length g ≡ dart_limit
  pub below : StaysBelow dart_limit (by_two (link_of f) (link_of g)) d

-- d is a dart: below the bound, and present
pub record Dart (n : ℕ) (present : ℕ → Bool) (d : ℕ) : Type 0 where
  pub below : d < n
  pub is_present : T (present d)

-- the links lead from darts to darts
pub record Keeps (n : ℕ) (present : ℕ → Bool) (next : ℕ → List ℕ) : Type 0 where
  pub stays : {d : ℕ} (c : ℕ) → Dart n present d → T (elem c (next d)) → Dart n present c

-- f leads from darts to darts, and no two to the same
pub record Permutes (n : ℕ) (present : ℕ → Bool) (f : ℕ → ℕ) : Type 0 where
  pub stays : {d : ℕ} → Dart n present d → Dart n present (f d)
  pub injective : {c d : ℕ} → Dart n present c → Dart n present d → f c ≡ f d → c ≡ d

-- f leads from darts to darts, and undoes itself
pub record Involutes (n : ℕ) (present : ℕ → Bool) (f : ℕ → ℕ) : Type 0 where
  pub stays : {d : ℕ} → Dart n present d → Dart n present (f d)
  pub twice : {d : ℕ} → Dart n present d → f (f d) ≡ d

-- a list for all darts, whose link permutes those that are there
pub record Permutation (n : ℕ) (present : ℕ → Bool) (f : List ℕ) : Type 0 where
  pub whole : length f ≡ dart_limit
  pub permutes : Permutes n present (link_of f)

-- two such lists, of darts below the limit; twice the same for one link
pub record Permuted (n : ℕ) (present : ℕ → Bool) (f g : List ℕ) : Type 0 where
  pub within : n ≤ dart_limit
  pub first : Permutation n present f
  pub second : Permutation n present g
