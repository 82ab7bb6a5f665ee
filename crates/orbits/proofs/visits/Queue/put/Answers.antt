-- `orbits::visits::Queue::put` meets its contract: there is room for a dart that was not seen.
use mathlib.Core.Path.{◌∙◌, refl}
use mathlib.Core.Bool.{true}
use Prim.Native.Nat.{◌<◌}
use native.Mathlib.Omega.{arith}
use lib.ListN.{length-set}
use Rattle.orbits.specs.Sets.{dart_limit}
use Rattle.orbits.proofs.Queue.{queue_room, put_held, put_placed, put_size, put_new}
use Rattle.orbits.proofs.visits.Queue.put.Goals as goal
use Rattle.orbits.proofs.visits.Queue.put.Goals.{Then-not-self-d}

room : (c : Then-not-self-d) → c.args.self.now.end < dart_limit
room c = queue_room c.args.self.now c.requires c.if-not-self-d.true

pub offset_bounds-self-self : goal.offset_bounds-self-self
offset_bounds-self-self c = omega (arith, room (goal.at.offset_bounds-self-self c).Then-not-self-d)

pub bounds-self-self : goal.bounds-self-self
bounds-self-self c = room (goal.at.bounds-self-self c).Then-not-self-d

pub overflow_add-self : goal.overflow_add-self
overflow_add-self c = omega (arith, room (goal.at.overflow_add-self c).Then-not-self-d)

pub invariant_of-self : goal.invariant_of-self
invariant_of-self c =
    let q = c.args.self.now in
    let new = c.if-not-self-d.true in
    record {
      order_whole = length-set q.order q.end c.args.d ∙ q.order_whole;
      seen_whole = length-set q.seen c.args.d true ∙ q.seen_whole;
      held = put_held q c.requires new;
      placed = put_placed q c.requires new;
      size = put_size q c.requires new;
    }

pub returns-then-not-self-d : goal.returns-then-not-self-d
returns-then-not-self-d c = put_new c.args.self.now c.requires c.if-not-self-d.true refl refl refl
