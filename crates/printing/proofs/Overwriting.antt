-- Writing into a lent list, in the order of this page: one byte; one thing after another, with room
-- for the first of two things, and for the second after the first; one byte before what is written;
-- a word that is copied byte by byte; the same bytes, written in another way; nothing. Each law is
-- one of `over_at`, with the place after what was written.
use mathlib.Core.Path.{◌≡◌, refl, sym, ap, subst, ◌∙◌}
use mathlib.Core.List.{List, [], ◌∷◌, ◌++◌}
use Prim.Native.Nat.{ℕ, ◌+◌, ◌≤◌}
use native.Mathlib.Omega.{arith}
use lib.ListN.{length, set, length-append}
use Rattle.finite.specs.Overwriting.{over_stores, over_at_length, over_nothing, over_then}
use Rattle.finite.specs.Overwriting.{over_before, Copied, all_copied}
use Rattle.printing.specs.Writing.{Room, PutAt}

pub wrote_byte : {lent : List ℕ} {at b : ℕ} → Room lent at (b ∷ []) →
    PutAt lent at (b ∷ []) (set lent at b) (at + 1)
wrote_byte {lent} {at} {b} r =
    record { holds = sym (over_stores lent at (b ∷ []) r.room); ends = refl }

-- ---- one thing after another

pub room_first : {lent : List ℕ} {at : ℕ} (s t : List ℕ) → Room lent at (s ++ t) → Room lent at s
room_first s t r = record { room = omega (arith, r.room, length-append s t) }

module _ {lent mid s : List ℕ} {at k : ℕ} (w : PutAt lent at s mid k) where
  pub wrote_length : Room lent at s → length mid ≡ length lent
  wrote_length r = ap length w.holds ∙ over_at_length lent at s r.room

  pub room_second : (t : List ℕ) → Room lent at (s ++ t) → Room mid k t
  room_second t r =
      record {
        room =
            omega (arith, r.room, length-append s t, w.ends, wrote_length (room_first s t r));
      }

  pub wrote_then : {t after : List ℕ} {end : ℕ} → Room lent at (s ++ t) → PutAt mid k t after end →
      PutAt lent at (s ++ t) after end
  wrote_then {t} r v =
      record {
        holds = v.holds ∙ rw (w.ends, w.holds) (over_then lent at s t r.room);
        ends = omega (arith, v.ends, w.ends, length-append s t);
      }

-- ---- one byte before what is written

pub wrote_before : {lent s after : List ℕ} {at end : ℕ} (b : ℕ) → Room lent at (b ∷ s) →
    PutAt lent (at + 1) s after end → PutAt lent at (b ∷ s) (set after at b) end
wrote_before {lent} {s} {at = at} b r w =
    record {
      holds = ap (λ (l : List ℕ). set l at b) w.holds ∙ over_before lent at b s r.room;
      ends = omega (arith, w.ends);
    }

-- ---- a word

pub wrote_word : {lent word now : List ℕ} {at i : ℕ} → Copied lent at word now i → length word ≤ i →
    PutAt lent at word now (at + length word)
wrote_word c h = record { holds = all_copied c h; ends = refl }

-- ---- the same bytes, written in another way

pub room_as : {lent s t : List ℕ} {at : ℕ} → s ≡ t → Room lent at s → Room lent at t
room_as {lent} {at = at} e r = subst (Room lent at) e r

pub wrote_as : {lent s t after : List ℕ} {at end : ℕ} → s ≡ t → PutAt lent at t after end →
    PutAt lent at s after end
wrote_as {lent} {after = after} {at} {end} e w =
    subst (λ (b : List ℕ). PutAt lent at b after end) (sym e) w

-- nothing
pub wrote_none : (lent : List ℕ) (at : ℕ) → PutAt lent at [] lent at
wrote_none lent at = record { holds = sym (over_nothing lent at); ends = omega arith }
