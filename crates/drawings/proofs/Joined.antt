-- Positions one after another, in the order of this page: a first one and those that follow it,
-- each after a comma and a space; how many bytes they take; those of the numbers before a place and
-- of one more; the loop that writes them.
use mathlib.Core.Path.{◌≡◌, refl, sym, ap, ◌∙◌}
use mathlib.Core.List.{List, [], ◌∷◌, ◌++◌, append_assoc, append-nil, map-append}
use Prim.Native.Nat.{ℕ, suc, ◌+◌, ◌*◌, ◌≤◌, ◌<◌}
use native.Mathlib.Numerals.{add-one}
use native.Mathlib.Omega.{arith}
use lib.IntN.{ℤ, pos, negsuc}
use lib.ListN.{length, get_or, take, drop, length-append, length-map, length-take, take-append-drop}
use lib.Seq.{take-suc, take_all}
use Rattle.model.specs.declared.Point.{Point}
use Rattle.model.specs.Spelling.{bytes, space, spelt}
use Rattle.model.specs.Maps.{point_in}
use Rattle.model.specs.Outlines.{point_text, joined}
use Rattle.printing.specs.Writing.{Room, PutAt}
use Rattle.printing.proofs.Decimals.{decimal_length}
use Rattle.printing.proofs.Overwriting.{room_first, room_second, room_as}
use Rattle.printing.proofs.Overwriting.{wrote_then, wrote_as, wrote_none}
use Rattle.drawings.specs.Positions.{points_at, next_text}

-- each position after a comma and a space
abbrev pub following : List Point → List ℕ
following [] = []
following (p ∷ s) = next_text p ++ following s

pub joined_first : (p : Point) (s : List Point) → joined p s ≡ point_text p ++ following s
unfolding joined next_text
joined_first p [] = sym (append-nil (point_text p))
joined_first p (q ∷ s) =
    ap (λ (l : List ℕ). point_text p ++ bytes ", " ++ l) (joined_first q s) ∙ simp append_assoc

pub after_word : (word : List ℕ) (p : Point) (s : List Point) →
    word ++ joined p s ≡ word ++ point_text p ++ following s
after_word word p s =
    ap (λ (l : List ℕ). word ++ l) (joined_first p s)
    ∙ sym (append_assoc word (point_text p) (following s))

following_append : (s t : List Point) → following (s ++ t) ≡ following s ++ following t
following_append [] t = refl
following_append (p ∷ s) t =
    ap (λ (l : List ℕ). next_text p ++ l) (following_append s t)
    ∙ sym (append_assoc (next_text p) (following s) (following t))

following_more : (s : List Point) (q : Point) → following (s ++ q ∷ []) ≡ following s ++ next_text q
following_more s q =
    following_append s (q ∷ []) ∙ ap (λ (l : List ℕ). following s ++ l) (append-nil (next_text q))

pub joined_more : (p : Point) (s : List Point) (q : Point) →
    joined p (s ++ q ∷ []) ≡ joined p s ++ next_text q
joined_more p s q =
    joined_first p (s ++ q ∷ [])
    ∙ ap (λ (l : List ℕ). point_text p ++ l) (following_more s q)
    ∙ sym (append_assoc (point_text p) (following s) (next_text q))
    ∙ ap (λ (l : List ℕ). l ++ next_text q) (sym (joined_first p s))

-- ---- how many bytes they take

pub spelt_most : (z : ℤ) → length (spelt z) ≤ 21
unfolding spelt
spelt_most (pos n) = omega (arith, decimal_length 20 n)
spelt_most (negsuc n) = omega (arith, decimal_length 20 (suc n))

module _ (p : Point) where
  pub position_most : length (point_text p) ≤ 43
  unfolding point_text
  position_most = omega (arith, length-append (spelt p.x) (space ∷ spelt p.y), spelt_most p.x, spelt_most p.y)

  pub next_length : length (next_text p) ≡ 2 + length (point_text p)
  unfolding next_text bytes
  next_length = omega arith

following_most : (s : List Point) → length (following s) ≤ 45 * length s
following_most [] = omega arith
following_most (p ∷ s) =
    omega (
      arith,
      length-append (next_text p) (following s),
      next_length p,
      position_most p,
      following_most s,
    )

pub joined_length : (p : Point) (s : List Point) →
    length (joined p s) ≡ length (point_text p) + length (following s)
joined_length p s = ap length (joined_first p s) ∙ length-append (point_text p) (following s)

pub joined_most : (p : Point) (s : List Point) → length (joined p s) ≤ 43 + 45 * length s
joined_most p s = omega (arith, joined_length p s, position_most p, following_most s)

-- ---- those of the numbers before place i

abbrev pub following_to : List Point → List ℕ → ℕ → List ℕ
following_to ps others i = following (points_at ps (take i others))

module _ (ps : List Point) (others : List ℕ) where
  -- one more, of the point that was read
  module _ {i : ℕ} (h : i < length others) {p : Point}
      (read : p ≡ point_in ps (get_or others i 0)) where
    pub to_next : following_to ps others (i + 1) ≡ following_to ps others i ++ next_text p
    to_next =
        rw (add-one, take-suc others i 0 h, read)
        (ap following (map-append (point_in ps) (take i others) (get_or others i 0 ∷ []))
        ∙ following_more (points_at ps (take i others)) (point_in ps (get_or others i 0)))

    pub length_next : length (following_to ps others (i + 1))
        ≡ length (following_to ps others i) + (2 + length (point_text p))
    length_next =
        omega (
          arith,
          ap length to_next,
          length-append (following_to ps others i) (next_text p),
          next_length p,
        )

  pub to_all : {i : ℕ} → length others ≤ i →
      following_to ps others i ≡ following (points_at ps others)
  to_all {i} h = rw (take_all i others h)

  pub to_most : (i : ℕ) → length (following_to ps others i) ≤ 45 * length others
  to_most i =
      omega (
        arith,
        following_most (points_at ps (take i others)),
        length-map (take i others) (point_in ps),
        length-take i others,
      )

-- ---- the loop that writes them

-- the positions of the numbers before place i are written
pub record Drawn (lent : List ℕ) (at : ℕ) (ps : List Point) (others now : List ℕ) (end i : ℕ)
    : Type 0 where
  pub so_far : PutAt lent at (following_to ps others i) now end
  pub inside : i ≤ length others

module _ {lent : List ℕ} {at : ℕ} (ps : List Point) (others : List ℕ) where
  pub drawn_none : Drawn lent at ps others lent at 0
  drawn_none = record { so_far = wrote_none lent at; inside = omega arith }

  module _ (r : Room lent at (following (points_at ps others))) where
    room_to : (i : ℕ) → Room lent at (following_to ps others i)
    room_to i =
        room_first (following_to ps others i) (following (points_at ps (drop i others)))
        (room_as
        (ap (λ (s : List ℕ). following (points_at ps s)) (sym (take-append-drop i others))
        ∙ ap following (map-append (point_in ps) (take i others) (drop i others))
        ∙ following_append (points_at ps (take i others)) (points_at ps (drop i others)))
        r)

    module _ {now : List ℕ} {end i : ℕ} (d : Drawn lent at ps others now end i) where
      module _ (h : i < length others) {p : Point}
          (read : p ≡ point_in ps (get_or others i 0)) where
        room_here : Room lent at (following_to ps others i ++ next_text p)
        room_here = room_as (to_next ps others h read) (room_to (i + 1))

        pub next_room : Room now end (next_text p)
        next_room = room_second d.so_far _ room_here

        pub drawn_next : {after : List ℕ} {end' : ℕ} → PutAt now end (next_text p) after end' →
            Drawn lent at ps others after end' (i + 1)
        drawn_next w =
            record {
              so_far = wrote_as (to_next ps others h read) (wrote_then d.so_far room_here w);
              inside = omega arith;
            }

  pub drawn_whole : {now : List ℕ} {end i : ℕ} → Drawn lent at ps others now end i →
      length others ≤ i → PutAt lent at (following (points_at ps others)) now end
  drawn_whole d h = wrote_as (sym (to_all ps others h)) d.so_far
