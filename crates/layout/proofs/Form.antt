-- Files in form, in the order of this page: how long the notes are; what the test of a version tells
-- and what it wants; how the code finds its answer; the versions that there are, and a file in form of
-- one of them.
-- Document 01, number 7: "file under 9 bytes, length not matching n and the bytes lent, n above
-- 512, version not 1, or helper byte above 1", for any version; document 02, request 107: "An arrival above 3
-- gives 7".
use mathlib.Core.Path.{◌≡◌, refl, sym, subst, ◌∙◌}
use mathlib.Core.Logic.{◌≢◌, ◌⊎◌, inl, inr, ⊎_elim}
use mathlib.Core.Bool.{Bool, false, ◌&&◌, ◌||◌}
use mathlib.Core.List.{List}
use Prim.Native.Nat.{ℕ, ◌*◌, ◌≤◌, ◌<◌}
use native.Mathlib.Omega.{arith}
use borrow.Author.Tests.{le-leb, eq-eqb, ne_eqb}
use lib.Dec.{T, leb, eqb, eqb→eq, leb→le, le→leb}
use lib.ListN.{length}
use Rattle.finite.specs.Tests.{and_left, and_right, and_both, or_cases, or_left, or_right, is_false, equal_by}
use Rattle.finite.specs.Tests.{same_or_not}
use Rattle.finite.specs.Bounded.{all, all_at, all_by}
use Rattle.model.specs.Maps.{point_limit}
use Rattle.model.specs.Saved.{version, old_version, number_at, version_place, header_length}
use Rattle.model.specs.Saved.{notes_length, saved_length, following, count_in_file, helper_in_file}
use Rattle.model.specs.Saved.{arrival_in_file, file_in_form_of, file_in_form}

-- how long the notes are
pub old_notes : (v n : ℕ) → v ≡ old_version → notes_length v n ≡ 0
unfolding notes_length
old_notes v n e = rw (eq-eqb v old_version e)

pub new_notes : (v n : ℕ) → v ≢ old_version → notes_length v n ≡ 5 * n
unfolding notes_length
new_notes v n e = rw (ne_eqb v old_version e)

pub notes_short : (v n : ℕ) → notes_length v n ≤ 5 * n
notes_short v n =
    ⊎_elim (λ (e : v ≡ old_version). omega (arith, old_notes v n e))
    (λ (e : v ≢ old_version). omega (arith, new_notes v n e))
    (same_or_not v old_version)

-- what a file in form of version v has
pub record Form (v : ℕ) (s : List ℕ) : Type 0 where
  pub few : count_in_file s ≤ point_limit
  pub whole : length s ≡ saved_length v (count_in_file s)
  pub length_right : number_at s 0 4 ≡ following v (count_in_file s)
  pub version_right : number_at s version_place 1 ≡ v
  pub helpers_right : (k : ℕ) → k < count_in_file s → helper_in_file s (count_in_file s) k ≤ 1
  pub arrivals_right : v ≢ old_version → (k : ℕ) → k < count_in_file s → arrival_in_file s (count_in_file s) k ≤ 3

-- every number that f names is at most a limit, as a test and as a fact
abbrev pub at_most : ℕ → (ℕ → ℕ) → ℕ → Bool
at_most n f limit = all n (λ k. leb (f k) limit)

at_most_holds : (n : ℕ) (f : ℕ → ℕ) (limit : ℕ) → T (at_most n f limit) → (k : ℕ) → k < n → f k ≤ limit
at_most_holds n f limit t k l = leb→le (f k) limit (all_at n (λ j. leb (f j) limit) t k l)

at_most_by : (n : ℕ) (f : ℕ → ℕ) (limit : ℕ) → ((k : ℕ) → k < n → f k ≤ limit) → T (at_most n f limit)
at_most_by n f limit h = all_by n (λ k. leb (f k) limit) (λ k l. le→leb (f k) limit (h k l))

module _ (v : ℕ) (s : List ℕ) where
  abbrev n : ℕ
  n = count_in_file s

  pub form_holds : T (file_in_form_of v s) → Form v s
  unfolding file_in_form_of
  form_holds t =
      record {
        few = leb→le n point_limit (search (and_left, and_right) depth 8);
        whole = eqb→eq (length s) (saved_length v n) (search (and_left, and_right) depth 8);
        length_right = eqb→eq (number_at s 0 4) (following v n) (search (and_left, and_right) depth 8);
        version_right = eqb→eq (number_at s version_place 1) v (search (and_left, and_right) depth 8);
        helpers_right = at_most_holds n (helper_in_file s n) 1 (search (and_left, and_right) depth 8);
        arrivals_right =
            λ e.
            ⊎_elim (λ t. absurd (e (eqb→eq v old_version t))) (at_most_holds n (arrival_in_file s n) 3)
            (or_cases (eqb v old_version) (at_most n (arrival_in_file s n) 3)
            (search (and_left, and_right) depth 8));
      }

  pub form_by : Form v s → T (file_in_form_of v s)
  unfolding file_in_form_of
  form_by f =
      let w = f.whole in
      let long : T (leb header_length (length s)) = le→leb header_length (length s) (omega arith) in
      let few : T (leb n point_limit) = le→leb n point_limit f.few in
      let whole : T (eqb (length s) (saved_length v n)) = equal_by (length s) (saved_length v n) w in
      let length_right : T (eqb (number_at s 0 4) (following v n)) =
      equal_by (number_at s 0 4) (following v n) f.length_right in
      let version_right : T (eqb (number_at s version_place 1) v) =
      equal_by (number_at s version_place 1) v f.version_right in
      let helpers_right : T (at_most n (helper_in_file s n) 1) =
      at_most_by n (helper_in_file s n) 1 f.helpers_right in
      let arrivals_right : T (eqb v old_version || at_most n (arrival_in_file s n) 3) =
      ⊎_elim
      (λ (e : v ≡ old_version). or_left (eqb v old_version) (at_most n (arrival_in_file s n) 3)
      (equal_by v old_version e))
      (λ (e : v ≢ old_version). or_right (eqb v old_version) (at_most n (arrival_in_file s n) 3)
      (at_most_by n (arrival_in_file s n) 3 (f.arrivals_right e)))
      (same_or_not v old_version) in
      search and_both depth 8

  -- no form, no file in form
  pub not_in_form : (Form v s → ⊥) → false ≡ file_in_form_of v s
  not_in_form formless = sym (is_false (file_in_form_of v s) (λ t. formless (form_holds t)))

  -- with the header in form, the helper bytes decide, and the arrivals where there are some
  pub bytes_decide : n ≤ point_limit → length s ≡ saved_length v n → number_at s 0 4 ≡ following v n →
      number_at s version_place 1 ≡ v →
      (at_most n (helper_in_file s n) 1 && (eqb v old_version || at_most n (arrival_in_file s n) 3))
      ≡ file_in_form_of v s
  unfolding file_in_form_of
  bytes_decide few whole l r =
      rw (
        le-leb header_length (length s) (omega arith),
        le-leb n point_limit few,
        eq-eqb (length s) (saved_length v n) whole,
        eq-eqb (number_at s 0 4) (following v n) l,
        eq-eqb (number_at s version_place 1) v r,
      )

-- ---- the versions that there are

abbrev pub IsVersion : ℕ → Type 0
IsVersion v = (v ≡ old_version) ⊎ (v ≡ version)

pub is_saved : IsVersion version
is_saved = inr refl

pub is_old : IsVersion old_version
is_old = inl refl

pub version_small : {v : ℕ} → IsVersion v → v < 256
version_small {v} is = ⊎_elim (λ (e : v ≡ old_version). omega arith) (λ (e : v ≡ version). omega arith) is

-- a file in form of one of them is in form ..
pub in_form : {v : ℕ} → IsVersion v → (s : List ℕ) → T (file_in_form_of v s) → T (file_in_form s)
unfolding file_in_form
in_form {v} is s t =
    ⊎_elim
    (λ (e : v ≡ old_version). or_left (file_in_form_of old_version s) (file_in_form_of version s)
    (subst (λ (w : ℕ). T (file_in_form_of w s)) e t))
    (λ (e : v ≡ version). or_right (file_in_form_of old_version s) (file_in_form_of version s)
    (subst (λ (w : ℕ). T (file_in_form_of w s)) e t))
    is

-- .. and a file in form is in form of the version that it names
abbrev pub version_in_file : List ℕ → ℕ
version_in_file s = number_at s version_place 1

pub in_form_is : (s : List ℕ) → T (file_in_form s) → IsVersion (version_in_file s) × Form (version_in_file s) s
unfolding file_in_form
in_form_is s t =
    ⊎_elim (λ o. named old_version o (λ e. inl e)) (λ o. named version o (λ e. inr e))
    (or_cases (file_in_form_of old_version s) (file_in_form_of version s) t)
  where
    named : (v : ℕ) → T (file_in_form_of v s) → (version_in_file s ≡ v → IsVersion (version_in_file s)) →
        IsVersion (version_in_file s) × Form (version_in_file s) s
    named v o is =
        let f = form_holds v s o in
        (is f.version_right, subst (λ (w : ℕ). Form w s) (sym f.version_right) f)

-- no file is in form of two versions
pub one_form : (v w : ℕ) (s : List ℕ) → T (file_in_form_of v s) → T (file_in_form_of w s) → v ≡ w
one_form v w s t u = sym (form_holds v s t).version_right ∙ (form_holds w s u).version_right
