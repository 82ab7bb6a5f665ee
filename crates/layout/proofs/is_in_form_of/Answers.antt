-- `layout::is_in_form_of` meets its contract: each test of the header that fails is one of the form's, and
-- with all of them passed the helper bytes and the arrivals decide.
use mathlib.Core.Path.{◌≡◌, sym, ap, ◌∙◌}
use mathlib.Core.Bool.{Bool, ◌&&◌, ◌||◌}
use mathlib.Core.List.{List}
use Prim.Native.Nat.{ℕ, ◌+◌, ◌-◌, ◌*◌, ◌≤◌}
use native.Mathlib.Omega.{arith}
use borrow.Author.Tests.{eq-eqb, ne_eqb}
use lib.Dec.{eqb}
use lib.ListN.{length}
use Rattle.model.specs.Maps.{point_limit}
use Rattle.model.specs.Saved.{version_place}
use Rattle.model.specs.Saved.{old_version, number_at, helpers_place, notes_place, saved_length}
use Rattle.model.specs.Saved.{count_in_file, helper_in_file, arrival_in_file, file_in_form_of}
use Rattle.layout.proofs.Form.{at_most, new_notes, not_in_form, bytes_decide}
use Rattle.layout.proofs.is_in_form_of.Goals as goal

pub returns-then-file-lt-HEADER_LENGTH : goal.returns-then-file-lt-HEADER_LENGTH
returns-then-file-lt-HEADER_LENGTH c =
    not_in_form _ _ (λ f. omega (arith, f.few, f.whole, f.length_right, f.version_right))

pub returns-then-count-gt-POINT_LIMIT : goal.returns-then-count-gt-POINT_LIMIT
returns-then-count-gt-POINT_LIMIT c =
    not_in_form _ _ (λ f. omega (arith, f.few, f.whole, f.length_right, f.version_right))

-- the length that the code found, by the number of points in the file
length_found : (s : List ℕ) (v : ℕ) {count size : ℕ} → size ≡ saved_length v count →
    count ≡ count_in_file s → size ≡ saved_length v (count_in_file s)
length_found s v e f = e ∙ ap (saved_length v) f

pub returns-then-file-length : goal.returns-then-file-length
returns-then-file-length c =
    let l = length_found c.args.file.now c.args.version c.saved_length-length.ensures
    c.number_at-count.ensures.0 in
    not_in_form _ _ (λ f. omega (arith, f.whole, l))

pub returns-then-following-length : goal.returns-then-following-length
returns-then-following-length c =
    not_in_form _ _ (λ f. omega (arith, f.few, f.whole, f.length_right, f.version_right))

pub returns-then-found-version : goal.returns-then-found-version
returns-then-found-version c =
    not_in_form _ _ (λ f. omega (arith, f.few, f.whole, f.length_right, f.version_right))

-- the groups of a width from a place on, by what the code found for the place and for the number of points
found : (s : List ℕ) (place : ℕ → ℕ) (width limit : ℕ) {at count : ℕ} {r : Bool} → at ≡ place count →
    count ≡ count_in_file s → r ≡ at_most count (λ k. number_at s (at + width * k) 1) limit →
    r ≡ at_most (count_in_file s) (λ k. number_at s (place (count_in_file s) + width * k) 1) limit
found s place width limit {at} {count} e f is =
    is ∙ ap (λ (a : ℕ). at_most count (λ k. number_at s (a + width * k) 1) limit) e
    ∙ ap (λ (n : ℕ). at_most n (λ k. number_at s (place n + width * k) 1) limit) f

-- what decides, once the code has found the number of points, the length and the two numbers of the header
decided : (s : List ℕ) (v : ℕ) {count size next number : ℕ} → count ≡ count_in_file s →
    size ≡ saved_length v count → next ≡ number_at s 0 4 → number ≡ number_at s version_place 1 →
    count ≤ point_limit → length s ≡ size → next ≡ size - version_place → number ≡ v →
    (at_most (count_in_file s) (helper_in_file s (count_in_file s)) 1
    && (eqb v old_version || at_most (count_in_file s) (arrival_in_file s (count_in_file s)) 3))
    ≡ file_in_form_of v s
decided s v count_is length_is next_is number_is few whole next_right number_right =
    let l = length_found s v length_is count_is in
    bytes_decide v s (omega arith) (omega arith) (omega arith) (omega arith)

pub returns-then-not-bytes_at_most : goal.returns-then-not-bytes_at_most
returns-then-not-bytes_at_most c =
    let file = c.args.file.now in
    let helpers =
    found file helpers_place 1 1 c.helpers_place-helpers_start.ensures c.number_at-count.ensures.0
    c.bytes_at_most.ensures in
    rw (sym helpers ∙ c.if-not-bytes_at_most.true)
    at (decided file c.args.version c.number_at-count.ensures.0 c.saved_length-length.ensures
    c.number_at-following.ensures.0 c.number_at-found.ensures.0 (omega arith) (omega arith) (omega arith)
    (omega arith))

pub returns-then-version-eq-OLD_VERSION : goal.returns-then-version-eq-OLD_VERSION
returns-then-version-eq-OLD_VERSION c =
    let file = c.args.file.now in
    let helpers =
    found file helpers_place 1 1 c.helpers_place-helpers_start.ensures c.number_at-count.ensures.0
    c.bytes_at_most.ensures in
    rw (
      sym helpers ∙ c.if-not-bytes_at_most.false,
      eq-eqb c.args.version old_version c.if-version-eq-OLD_VERSION.true,
    )
    at (decided file c.args.version c.number_at-count.ensures.0 c.saved_length-length.ensures
    c.number_at-following.ensures.0 c.number_at-found.ensures.0 (omega arith) (omega arith) (omega arith)
    (omega arith))

pub bytes_at_most-requires-2 : goal.bytes_at_most-requires-2
bytes_at_most-requires-2 c =
    let l = length_found c.args.file.now c.args.version c.saved_length-length.ensures
    c.number_at-count.ensures.0 in
    let n = count_in_file c.args.file.now in
    (omega arith, omega (arith, new_notes c.args.version n c.if-version-eq-OLD_VERSION.false))

pub returns : goal.returns
returns c =
    let file = c.args.file.now in
    let helpers =
    found file helpers_place 1 1 c.helpers_place-helpers_start.ensures c.number_at-count.ensures.0
    c.bytes_at_most.ensures in
    found file notes_place 5 3 c.notes_place-notes_start.ensures c.number_at-count.ensures.0
    c.bytes_at_most-2.ensures
    ∙ rw (
      sym helpers ∙ c.if-not-bytes_at_most.false,
      ne_eqb c.args.version old_version c.if-version-eq-OLD_VERSION.false,
    )
    at (decided file c.args.version c.number_at-count.ensures.0 c.saved_length-length.ensures
    c.number_at-following.ensures.0 c.number_at-found.ensures.0 (omega arith) (omega arith) (omega arith)
    (omega arith))
