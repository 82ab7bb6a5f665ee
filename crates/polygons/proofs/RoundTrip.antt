-- Whole texts, in the order of this page: positions between two words; so many of them, and a ring;
-- `text_read`: what is written for corners is read as these; `read_text`: what is read is written
-- as the same bytes. Request #101: "a text is accepted if and only if some survey would write it,
-- and it then writes back the same bytes".
use mathlib.Core.Path.{◌≡◌, refl, sym, ap, ap₂, subst, ◌∙◌}
use mathlib.Core.Logic.{◌⊎◌, inl, inr, ⊎_elim}
use mathlib.Core.Bool.{Bool, true, false, cond, ◌&&◌}
use mathlib.Core.List.{List, [], ◌∷◌, ◌++◌, append_assoc}
use mathlib.Core.Option.{Option, none, some}
use Prim.Native.Nat.{ℕ, suc, ◌-◌, ◌≤◌, ◌<◌}
use native.Mathlib.Omega.{arith}
use lib.Dec.{T, leb, eqb, eqb→eq, leb→le, le→leb}
use lib.ListN.{length, get_or, take, drop, length-append, drop_of_length-le, get_or-append}
use lib.Seq.{take-append_seam, drop-append_seam, get_or-append_seam, split_at, get_or-take, length-take-le}
use Rattle.finite.specs.Tests.{and_left, and_right, and_both, is_true}
use Rattle.finite.specs.Lists.{all_in}
use Rattle.finite.specs.ListLaws.{all_in_snoc}
use Rattle.model.specs.declared.Point.{Point}
use Rattle.model.specs.Plane.{origin, same_point}
use Rattle.model.specs.Spelling.{bytes, space, spelt}
use Rattle.model.specs.Text.{is_digit, front, leading_digits}
use Rattle.model.proofs.Shape.{same_point_eq, same_point_by}
use Rattle.model.specs.Outlines.{corners_in, exactly, is_word, joined, positions_in, outline_text, point_text, positions, ring_of, starts_with}
use Rattle.positions.proofs.WordLaws.{word_then, word_whole}
use Rattle.positions.proofs.PositionLaws.{few_digits, none_some, Closes, joined_read, read_joined}

-- ---- positions between two words

point_some : (p : Point) → 1 ≤ length (point_text p)
unfolding point_text
point_some p = omega (arith, length-append (spelt p.x) (space ∷ spelt p.y))

-- fewer positions than bytes
joined_long : (p : Point) (s : List Point) → length s < length (joined p s)
unfolding joined
joined_long p [] = point_some p
joined_long p (q ∷ s) =
    omega (
      arith,
      point_some p,
      joined_long q s,
      length-append (point_text p ++ bytes ", ") (joined q s),
      length-append (point_text p) (bytes ", "),
    )

pub listed_read : (opening closing : List ℕ) (p : Point) (s : List Point) → Closes closing →
    T (all_in few_digits (p ∷ s)) → positions_in opening closing (opening ++ joined p s ++ closing) ≡ some (p ∷ s)
unfolding positions_in
listed_read opening closing p s c f =
    let body : List ℕ = joined p s ++ closing in
    let rest : drop (length opening) (opening ++ joined p s ++ closing) ≡ body =
    ap (drop (length opening)) (append_assoc opening (joined p s) closing) ∙ drop-append_seam opening body in
    ap (λ (l : List ℕ). positions (length l) closing l) rest
    ∙ joined_read (length body) closing p s c f (omega (arith, joined_long p s, length-append (joined p s) closing))

pub read_listed : (opening closing t : List ℕ) (ps : List Point) → T (starts_with opening t) →
    positions_in opening closing t ≡ some ps →
    (p : Point) × (s : List Point) × (ps ≡ p ∷ s) × (opening ++ joined p s ++ closing ≡ t)
unfolding positions_in
read_listed opening closing t ps h e =
    let rest = drop (length opening) t in
    let w = read_joined (length rest) closing rest ps e in (
      w.first,
      w.others,
      w.all,
      append_assoc opening (joined w.first w.others) closing
          ∙ ap (λ (l : List ℕ). opening ++ l) (sym w.text)
          ∙ sym (word_then opening t h),
    )

-- ---- so many, and a ring

-- of two ways to be read, the one that was taken
taken : (b : Bool) (x y : Option (List Point)) (cs : List Point) → cond b x y ≡ some cs →
    (T b × (x ≡ some cs)) ⊎ (y ≡ some cs)
taken true x y cs e = inl (tt, e)
taken false x y cs e = inr e

pub exactly_some : (n : ℕ) (m : Option (List Point)) (cs : List Point) → exactly n m ≡ some cs →
    (m ≡ some cs) × (length cs ≡ n)
unfolding exactly
exactly_some n none cs e = absurd (none_some e)
exactly_some n (some s) cs e =
    ⊎_elim
    (λ w. let is : cs ≡ s = cc w.1 in (w.1, ap length is ∙ eqb→eq (length s) n w.0))
    (λ f. absurd (none_some f))
    (taken (eqb (length s) n) (some s) none cs e)

-- the corners with the first of them again at the end
abbrev pub closed : List Point → List Point
closed cs = cs ++ get_or cs 0 origin ∷ []

-- what the test of a ring says
abbrev pub is_closed : List Point → Bool
is_closed s = leb 3 (length s - 1) && same_point (get_or s 0 origin) (get_or s (length s - 1) origin)

ring_closed : (cs : List Point) → 3 ≤ length cs → ring_of (some (closed cs)) ≡ some cs
unfolding ring_of
ring_closed cs h =
    let first : Point = get_or cs 0 origin in
    let s : List Point = closed cs in
    let long : length s - 1 ≡ length cs = omega (arith, length-append cs (first ∷ [])) in
    let begins : get_or s 0 origin ≡ first = get_or-append cs (first ∷ []) origin 0 (omega arith) in
    let ends : get_or s (length s - 1) origin ≡ first = rw long (get_or-append_seam cs first [] origin) in
    let passes : T (is_closed s) =
    and_both (leb 3 (length s - 1)) (same_point (get_or s 0 origin) (get_or s (length s - 1) origin))
    (le→leb 3 (length s - 1) (omega arith))
    (same_point_by (get_or s 0 origin) (get_or s (length s - 1) origin) (begins ∙ sym ends)) in
    ap (λ (b : Bool). cond b (some (take (length s - 1) s)) none) (is_true (is_closed s) passes)
    ∙ ap (λ (n : ℕ). some (take n s)) long ∙ ap some (take-append_seam cs (first ∷ []))

-- a ring is closed, and its corners are all but the last
pub cut_closed : (s : List Point) → T (is_closed s) →
    (s ≡ closed (take (length s - 1) s)) × (3 ≤ length (take (length s - 1) s))
cut_closed s t =
    let n : ℕ = length s - 1 in
    let three : 3 ≤ n = leb→le 3 n (and_left (leb 3 n) (same_point (get_or s 0 origin) (get_or s n origin)) t) in
    let again : get_or s 0 origin ≡ get_or s n origin =
    same_point_eq (get_or s 0 origin) (get_or s n origin)
    (and_right (leb 3 n) (same_point (get_or s 0 origin) (get_or s n origin)) t) in
    let first : get_or (take n s) 0 origin ≡ get_or s n origin = get_or-take n s 0 origin (omega arith) ∙ again in
    let end : drop (suc n) s ≡ [] = drop_of_length-le s {i = suc n} (omega arith) in (
      split_at s n origin (omega arith) ∙ ap₂ (λ (p : Point) (l : List Point). take n s ++ p ∷ l) (sym first) end,
      omega (arith, length-take-le n s (omega arith)),
    )

pub ring_some : (m : Option (List Point)) (cs : List Point) → ring_of m ≡ some cs →
    (m ≡ some (closed cs)) × (3 ≤ length cs)
unfolding ring_of
ring_some none cs e = absurd (none_some e)
ring_some (some s) cs e =
    ⊎_elim
    (λ w.
    let is : take (length s - 1) s ≡ cs = cc w.1 in
    let r = cut_closed s w.0 in
    (ap some (r.0 ∙ ap closed is), omega (arith, r.1, ap length is)))
    (λ f. absurd (none_some f))
    (taken (is_closed s) (some (take (length s - 1) s)) none cs e)

-- ---- what is written is read

bracket_closes : Closes (bytes ")")
unfolding bytes starts_with front leading_digits is_digit
bracket_closes = record { ends = record { no_front = refl; no_digits = refl }; apart = refl }

brackets_close : Closes (bytes "))")
unfolding bytes starts_with front leading_digits is_digit
brackets_close = record { ends = record { no_front = refl; no_digits = refl }; apart = refl }

pub few_snoc : (s : List Point) (p : Point) → T (all_in few_digits s) → T (few_digits p) →
    T (all_in few_digits (s ++ p ∷ []))
few_snoc s p t u =
    subst T (sym (all_in_snoc few_digits s p)) (and_both (all_in few_digits s) (few_digits p) t u)

pub text_read : (cs : List Point) → T (all_in few_digits cs) → corners_in (outline_text cs) ≡ some cs
unfolding corners_in outline_text bytes starts_with is_word exactly all_in
text_read [] f = refl
text_read (p ∷ []) f = ap (exactly 1) (listed_read (bytes "POINT (") (bytes ")") p [] bracket_closes f)
text_read (p ∷ q ∷ []) f =
    ap (exactly 2) (listed_read (bytes "LINESTRING (") (bytes ")") p (q ∷ []) bracket_closes f)
text_read (p ∷ q ∷ r ∷ s) f =
    let cs : List Point = p ∷ q ∷ r ∷ s in
    ap ring_of
    (listed_read (bytes "POLYGON ((") (bytes "))") p (q ∷ r ∷ s ++ p ∷ []) brackets_close
    (few_snoc cs p f (and_left (few_digits p) (all_in few_digits (q ∷ r ∷ s)) f)))
    ∙ ring_closed cs (omega arith)

-- ---- what is read is written

point_is : (p : Point) (s : List Point) → length (p ∷ s) ≡ 1 →
    outline_text (p ∷ s) ≡ bytes "POINT (" ++ joined p s ++ bytes ")"
unfolding outline_text
point_is p [] e = refl
point_is p (q ∷ s) e = absurd (omega arith)

line_is : (p : Point) (s : List Point) → length (p ∷ s) ≡ 2 →
    outline_text (p ∷ s) ≡ bytes "LINESTRING (" ++ joined p s ++ bytes ")"
unfolding outline_text
line_is p [] e = absurd (omega arith)
line_is p (q ∷ []) e = refl
line_is p (q ∷ r ∷ s) e = absurd (omega arith)

ring_is : (cs : List Point) (p : Point) (s : List Point) → 3 ≤ length cs → closed cs ≡ p ∷ s →
    outline_text cs ≡ bytes "POLYGON ((" ++ joined p s ++ bytes "))"
unfolding outline_text
ring_is [] p s h e = absurd (omega arith)
ring_is (a ∷ []) p s h e = absurd (omega arith)
ring_is (a ∷ b ∷ []) p s h e = absurd (omega arith)
ring_is (a ∷ b ∷ c ∷ cs) p s h e =
    let first : a ≡ p = cc in
    let others : b ∷ c ∷ cs ++ a ∷ [] ≡ s = cc in
    ap₂ (λ (q : Point) (l : List Point). bytes "POLYGON ((" ++ joined q l ++ bytes "))") first others

module _ (t : List ℕ) (cs : List Point) where
  abbrev point : Option (List Point)
  point = exactly 1 (positions_in (bytes "POINT (") (bytes ")") t)

  abbrev line : Option (List Point)
  line = exactly 2 (positions_in (bytes "LINESTRING (") (bytes ")") t)

  abbrev polygon : Option (List Point)
  polygon = ring_of (positions_in (bytes "POLYGON ((") (bytes "))") t)

  read_empty : T (is_word (bytes "POLYGON EMPTY") t) → some [] ≡ some cs → outline_text cs ≡ t
  unfolding outline_text
  read_empty h e = let is : cs ≡ [] = cc in rw is (sym (word_whole (bytes "POLYGON EMPTY") t h))

  read_point : T (starts_with (bytes "POINT (") t) → point ≡ some cs → outline_text cs ≡ t
  read_point h e =
      let one = exactly_some 1 (positions_in (bytes "POINT (") (bytes ")") t) cs e in
      let r = read_listed (bytes "POINT (") (bytes ")") t cs h one.0 in
      ap outline_text r.2 ∙ point_is r.0 r.1 (ap length (sym r.2) ∙ one.1) ∙ r.3

  read_line : T (starts_with (bytes "LINESTRING (") t) → line ≡ some cs → outline_text cs ≡ t
  read_line h e =
      let two = exactly_some 2 (positions_in (bytes "LINESTRING (") (bytes ")") t) cs e in
      let r = read_listed (bytes "LINESTRING (") (bytes ")") t cs h two.0 in
      ap outline_text r.2 ∙ line_is r.0 r.1 (ap length (sym r.2) ∙ two.1) ∙ r.3

  read_polygon : T (starts_with (bytes "POLYGON ((") t) → polygon ≡ some cs → outline_text cs ≡ t
  read_polygon h e =
      let ring = ring_some (positions_in (bytes "POLYGON ((") (bytes "))") t) cs e in
      let r = read_listed (bytes "POLYGON ((") (bytes "))") t (closed cs) h ring.0 in
      ring_is cs r.0 r.1 ring.1 r.2 ∙ r.3

  pub read_text : corners_in t ≡ some cs → outline_text cs ≡ t
  unfolding corners_in
  read_text e =
      let ring : Option (List Point) = cond (starts_with (bytes "POLYGON ((") t) polygon none in
      let two : Option (List Point) = cond (starts_with (bytes "LINESTRING (") t) line ring in
      let one : Option (List Point) = cond (starts_with (bytes "POINT (") t) point two in
      ⊎_elim
      (λ w. read_empty w.0 w.1)
      (λ e1.
      ⊎_elim
      (λ w. read_point w.0 w.1)
      (λ e2.
      ⊎_elim
      (λ w. read_line w.0 w.1)
      (λ e3.
      ⊎_elim
      (λ w. read_polygon w.0 w.1)
      (λ e4. absurd (none_some e4))
      (taken (starts_with (bytes "POLYGON ((") t) polygon none cs e3))
      (taken (starts_with (bytes "LINESTRING (") t) line ring cs e2))
      (taken (starts_with (bytes "POINT (") t) point two cs e1))
      (taken (is_word (bytes "POLYGON EMPTY") t) (some []) one cs e)
