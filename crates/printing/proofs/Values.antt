-- Values printed one after another, each after a space, in the order of this page: of lists put
-- together; of the values before a place and one more; how many bytes they take.
use mathlib.Core.Path.{◌≡◌, refl, sym, ap, ◌∙◌}
use mathlib.Core.List.{List, [], ◌∷◌, ◌++◌, append_assoc, append-nil}
use Prim.Native.Nat.{ℕ, ◌+◌, ◌*◌, ◌≤◌, ◌<◌}
use native.Mathlib.Numerals.{add-one}
use native.Mathlib.Omega.{arith}
use lib.IntN.{pos}
use lib.ListN.{length, get_or, take, drop, length-append, take-append-drop}
use lib.Seq.{take-suc, take-length}
use Rattle.model.specs.Spelling.{space, spelt}
use Rattle.model.specs.Report.{spaced}
use Rattle.printing.specs.Printing.{values_spaced}
use Rattle.printing.specs.Writing.{Room, PutAt}
use Rattle.printing.proofs.Decimals.{spelt_length}
use Rattle.printing.proofs.Overwriting.{room_first, room_second, wrote_then, room_as, wrote_as, wrote_none, wrote_length}

spaced_append : (s t : List ℕ) → values_spaced (s ++ t) ≡ values_spaced s ++ values_spaced t
unfolding spaced
spaced_append [] t = refl
spaced_append (v ∷ s) t =
    ap (λ (l : List ℕ). space ∷ spelt (pos v) ++ l) (spaced_append s t) ∙
    ap (λ (l : List ℕ). space ∷ l) (sym (append_assoc (spelt (pos v)) (values_spaced s)
    (values_spaced t)))

spaced_one : (v : ℕ) → values_spaced (v ∷ []) ≡ space ∷ spelt (pos v)
unfolding spaced
spaced_one v = ap (λ (l : List ℕ). space ∷ l) (append-nil (spelt (pos v)))

-- the values before place i are printed
abbrev pub printed_to : List ℕ → ℕ → List ℕ
printed_to values i = values_spaced (take i values)

module _ (values : List ℕ) (i : ℕ) (h : i < length values) where
  pub printed_more : printed_to values (i + 1) ≡ printed_to values i ++ space ∷ spelt (pos (get_or
      values i 0))
  printed_more =
      rw (add-one, take-suc values i 0 h) (spaced_append (take i values) (get_or values i 0 ∷ []))
      ∙ ap (λ (l : List ℕ). printed_to values i ++ l) (spaced_one (get_or values i 0))

  pub length_more : length (printed_to values (i + 1)) ≡ length (printed_to values i) + (1 +
      length (spelt (pos (get_or values i 0))))
  length_more = omega (
    arith,
    ap length printed_more,
    length-append (printed_to values i) (space
        ∷ spelt (pos (get_or values i 0))),
  )

pub printed_all : (values : List ℕ) (i : ℕ) → length values ≤ i → i ≤ length values →
    printed_to values i ≡ values_spaced values
printed_all values i l h = let e : i ≡ length values = omega arith in rw (e, take-length values)

-- each takes a space and 20 digits at most
pub spaced_length : (values : List ℕ) → length (values_spaced values) ≤ 21 * length values
unfolding spaced
spaced_length [] = omega arith
spaced_length (v ∷ values) =
    omega (
      arith,
      spelt_length v,
      spaced_length values,
      length-append (spelt (pos v))
          (values_spaced values),
    )

-- ---- the loop that writes them

-- the values before place i are written
pub record Printed (lent : List ℕ) (at : ℕ) (values now : List ℕ) (end i : ℕ) : Type 0 where
  pub so_far : PutAt lent at (printed_to values i) now end
  pub inside : i ≤ length values

module _ {lent : List ℕ} {at : ℕ} (values : List ℕ) (r : Room lent at (values_spaced values)) where
  pub printed_none : Printed lent at values lent at 0
  unfolding spaced
  printed_none = record {
    so_far = wrote_none lent at;
    inside = omega
        arith;
  }

  room_to : (i : ℕ) → Room lent at (printed_to values i)
  room_to i =
      room_first (printed_to values i) (values_spaced (drop i values))
      (room_as (sym (ap values_spaced (take-append-drop i values))
      ∙ spaced_append (take i values) (drop i values)) r)

  module _ {now : List ℕ} {end i : ℕ} (p : Printed lent at values now end i) where
    pub printed_length : length now ≡ length lent
    printed_length = wrote_length p.so_far (room_to i)

    module _ (h : i < length values) where
      room_here : Room lent at (printed_to values i ++ space ∷ spelt (pos (get_or values i 0)))
      room_here = room_as (printed_more values i h) (room_to (i + 1))

      pub value_room : Room now end (space ∷ spelt (pos (get_or values i 0)))
      value_room = room_second p.so_far _ room_here

      pub printed_next : {after : List ℕ} {end' : ℕ} →
          PutAt now end (space ∷ spelt (pos (get_or values i 0))) after end' →
          Printed lent at values after end' (i + 1)
      printed_next w =
          record {
            so_far = wrote_as (printed_more values i h) (wrote_then p.so_far room_here w);
            inside = omega arith;
          }

    pub printed_whole : length values ≤ i → PutAt lent at (values_spaced values) now end
    printed_whole h = wrote_as (sym (printed_all values i h p.inside)) p.so_far
