-- A text that is written in two parts, in the order of this page: room for the first part; for the
-- second after the first; both written.
use mathlib.Core.Path.{◌≡◌}
use mathlib.Core.List.{List, ◌++◌}
use Prim.Native.Nat.{ℕ}
use Rattle.printing.specs.Writing.{Room, PutAt}
use Rattle.printing.proofs.Overwriting.{room_first, room_second, room_as, wrote_then, wrote_as}

module _ {lent text : List ℕ} {at : ℕ} (s t : List ℕ) (parts : text ≡ s ++ t)
    (r : Room lent at text) where
  pub front_room : Room lent at s
  front_room = room_first s t (room_as parts r)

  module _ {mid : List ℕ} {k : ℕ} (w : PutAt lent at s mid k) where
    pub back_room : Room mid k t
    back_room = room_second w t (room_as parts r)

    pub both_written : {now : List ℕ} {end : ℕ} → PutAt mid k t now end → PutAt lent at text now end
    both_written v = wrote_as parts (wrote_then w (room_as parts r) v)
