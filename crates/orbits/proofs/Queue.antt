-- The laws of the queue, in the order of this page: there is room for a dart that was not seen; a dart
-- put at the end; what stays seen; growing twice; a visit from its start, step by step, to its end.
use mathlib.Core.Path.{◌≡◌, sym, ◌∙◌, ap, subst}
use mathlib.Core.Logic.{◌⊎◌, inl, inr, ⊎_elim, ◌≢◌}
use mathlib.Core.Bool.{true, false, not}
use mathlib.Core.List.{List}
use Prim.Native.Nat.{ℕ, ◌+◌, ◌≤◌, ◌<◌}
use native.Mathlib.Nat.{le_refl}
use native.Mathlib.Numerals.{add-one}
use native.Mathlib.Omega.{arith}
use lib.Dec.{T, eqb, eqb→eq}
use lib.ListN.{get_or, set}
use lib.Seq.{get_or-set_same, get_or-set_other}
use Rattle.finite.specs.Tests.{of_true, same_or_not, equal_by}
use Rattle.finite.specs.Bounded.{any, any_at, any_by, count, lt_or_ge}
use Rattle.finite.specs.Counting.{count_small, count_less, count_one_more}
use Rattle.orbits.specs.Reach.{Reach, here, by_two}
use Rattle.orbits.specs.Sets.{dart_limit, set_of, no_darts, with_dart}
use Rattle.orbits.specs.Links.{link_of, test_of, Followable}
use Rattle.orbits.specs.Queue.{queued}
use Rattle.orbits.specs.Visits.{Lengthened, LinksSeen, Ready, Visited, Put}
use Rattle.orbits.specs.declared.visits.Queue.{Queue}
use Rattle.orbits.proofs.Links.{link_read}
use Rattle.orbits.proofs.Sets.{no_darts_set, with_set_of}
use Rattle.orbits.proofs.Reach.{reach_trans, by_first_link, by_second_link}

pub queue_small : (q : Queue) → q.end ≤ dart_limit
queue_small q = omega (arith, q.size, count_small dart_limit (test_of q.seen))

-- the place of a dart seen
pub place : (q : Queue) (d : ℕ) → T (test_of q.seen d) → (i : ℕ) × (i < q.end) × (get_or q.order i 0 ≡ d)
unfolding queued
place q d t =
    let at = any_at q.end (λ i. eqb d (get_or q.order i 0)) (q.placed d t) in
    (at.0, at.1, sym (eqb→eq d (get_or q.order at.0 0) at.2))

-- ---- one dart more

module _ (q : Queue) {d : ℕ} (h : d < dart_limit) (new : test_of q.seen d ≡ false) where
  not_seen : T (not (test_of q.seen d))
  not_seen = of_true (not (test_of q.seen d)) (ap not new)

  pub queue_room : q.end < dart_limit
  queue_room =
      omega (
        arith,
        q.size,
        count_less dart_limit d (test_of q.seen) (λ e. true) (λ e l t. tt) h not_seen tt,
        count_small dart_limit (λ e. true),
      )

  seen_at : test_of (set q.seen d true) d ≡ true
  seen_at = get_or-set_same q.seen d true false (omega (arith, q.seen_whole))

  order_at : get_or (set q.order q.end d) q.end 0 ≡ d
  order_at = get_or-set_same q.order q.end d 0 (omega (arith, q.order_whole, queue_room))

  order_before : (i : ℕ) → i < q.end → get_or (set q.order q.end d) i 0 ≡ get_or q.order i 0
  order_before i l = get_or-set_other q.order q.end i d 0 (omega arith)

  put_seen : (e : ℕ) → T (test_of q.seen e) → T (test_of (set q.seen d true) e)
  put_seen e t =
      ⊎_elim
      (λ (i : e ≡ d). of_true (test_of (set q.seen d true) e) (ap (test_of (set q.seen d true)) i ∙ seen_at))
      (λ (n : e ≢ d). rw (get_or-set_other q.seen d e true false n) t)
      (same_or_not e d)

  pub put_held : (i : ℕ) → i < q.end + 1 → T (test_of (set q.seen d true) (get_or (set q.order q.end d) i 0))
  put_held i l =
      ⊎_elim
      (λ (m : i < q.end). rw (order_before i m) (put_seen (get_or q.order i 0) (q.held i m)))
      (λ (m : q.end ≤ i).
      let e : i ≡ q.end = omega arith in
      rw (e, order_at) (of_true (test_of (set q.seen d true) d) seen_at))
      (lt_or_ge i q.end)

  pub put_placed : (e : ℕ) → T (test_of (set q.seen d true) e) → T (queued (set q.order q.end d) (q.end + 1) e)
  unfolding queued
  put_placed e t =
      ⊎_elim
      (λ (i : e ≡ d). stands q.end (omega arith) (i ∙ sym order_at))
      (λ (n : e ≢ d).
      let at = place q e (rw (get_or-set_other q.seen d e true false n) at t) in
      stands at.0 (omega (arith, at.1)) (sym (order_before at.0 at.1 ∙ at.2)))
      (same_or_not e d)
    where
      stands : (i : ℕ) → i < q.end + 1 → e ≡ get_or (set q.order q.end d) i 0 →
          T (any (q.end + 1) (λ j. eqb e (get_or (set q.order q.end d) j 0)))
      stands i l s =
          any_by (q.end + 1) (λ j. eqb e (get_or (set q.order q.end d) j 0)) i l
          (equal_by e (get_or (set q.order q.end d) i 0) s)

  pub put_size : q.end + 1 ≡ count dart_limit (test_of (set q.seen d true))
  put_size =
      omega (
        arith,
        q.size,
        count_one_more dart_limit d (test_of (set q.seen d true)) (test_of q.seen) h
            (of_true (test_of (set q.seen d true) d) seen_at)
            not_seen
            (λ e l n. get_or-set_other q.seen d e true false n),
      )

  pub put_new : {r : Queue} → r.order ≡ set q.order q.end d → r.seen ≡ set q.seen d true → r.end ≡ q.end + 1 → Put d q r
  put_new {r} o s e =
      record {
        lengthened = record {
          longer = omega (arith, e);
          same = λ i l. rw o (order_before i l);
          added = λ i l m. let f : i ≡ q.end = omega (arith, e) in rw (o, f) order_at;
        };
        start = rw s (of_true (test_of (set q.seen d true) d) seen_at);
      }

-- ---- growing

module _ {Q : ℕ → Type 0} {q r : Queue} (g : Lengthened Q q r) where
  -- what was seen is seen
  pub lengthened_seen : (d : ℕ) → T (test_of q.seen d) → T (test_of r.seen d)
  lengthened_seen d t =
      let at = place q d t in
      subst (λ (e : ℕ). T (test_of r.seen e)) (g.same at.0 at.1 ∙ at.2)
      (r.held at.0 (omega (arith, at.1, g.longer)))

  -- what is seen was seen, or is new
  pub lengthened_cases : (d : ℕ) → T (test_of r.seen d) → T (test_of q.seen d) ⊎ Q d
  lengthened_cases d t =
      let at = place r d t in
      ⊎_elim
      (λ (l : at.0 < q.end). inl (subst (λ (e : ℕ). T (test_of q.seen e)) (sym (g.same at.0 l) ∙ at.2) (q.held at.0 l)))
      (λ (l : q.end ≤ at.0). inr (subst Q at.2 (g.added at.0 l at.1)))
      (lt_or_ge at.0 q.end)

  -- what holds of the new darts
  pub lengthened_map : {P : ℕ → Type 0} → ((d : ℕ) → Q d → P d) → Lengthened P q r
  lengthened_map to =
      record { longer = g.longer; same = g.same; added = λ i l m. to (get_or r.order i 0) (g.added i l m) }

  -- growing once more
  pub lengthened_on : {s : Queue} → Lengthened Q r s → Lengthened Q q s
  lengthened_on h =
      record {
        longer = omega (arith, g.longer, h.longer);
        same = λ i l. h.same i (omega (arith, g.longer)) ∙ g.same i l;
        added = λ i l m.
            ⊎_elim
            (λ (k : i < r.end). subst Q (sym (h.same i k)) (g.added i l k))
            (λ (k : r.end ≤ i). h.added i k m)
            (lt_or_ge i r.end);
      }

-- ---- a visit

-- The visit of d, which began with the queue q, has come to the place `head`: what was added is reached from d,
-- and each dart before `head` has its links in the queue.
pub record Visiting (f g : List ℕ) (d : ℕ) (q r : Queue) (head : ℕ) : Type 0 where
  pub lengthened : Lengthened (Reach (by_two (link_of f) (link_of g)) d) q r
  pub start : T (test_of r.seen d)
  pub begun : q.end ≤ head
  pub within : head ≤ r.end
  pub done : (i : ℕ) → i < head → LinksSeen (link_of f) (link_of g) r.seen (get_or r.order i 0)

-- it begins with d, before which all links are in the queue
pub visit_begins : {f g : List ℕ} {d : ℕ} {q r : Queue} → Ready f g d q → Put d q r → Visiting f g d q r q.end
visit_begins {f} {g} {q = q} ready put =
    record {
      lengthened = lengthened_map put.lengthened (λ e i. rw i here);
      start = put.start;
      begun = le_refl _;
      within = put.lengthened.longer;
      done = λ i l.
          let old = ready.closed (get_or q.order i 0) (q.held i l) in
          rw (put.lengthened.same i l) (
            lengthened_seen put.lengthened (link_of f (get_or q.order i 0)) old.0,
            lengthened_seen put.lengthened (link_of g (get_or q.order i 0)) old.1,
          );
    }

-- it ends when every dart of the queue has been passed
pub visit_ends : {f g : List ℕ} {d : ℕ} {q r : Queue} {head : ℕ} → Visiting f g d q r head → r.end ≤ head →
    Visited f g d q r
visit_ends {f} {g} {r = r} v h =
    record {
      lengthened = v.lengthened;
      start = v.start;
      closed = λ e t.
          let at = place r e t in
          subst (LinksSeen (link_of f) (link_of g) r.seen) at.2 (v.done at.0 (omega (arith, at.1)));
    }

-- until then there is a dart at `head`, reached from d
module _ {f g : List ℕ} {d : ℕ} {q r : Queue} {head : ℕ} (w : Followable f g d) (v : Visiting f g d q r head)
    (h : head < r.end) where
  head_reached : Reach (by_two (link_of f) (link_of g)) d (get_or r.order head 0)
  head_reached = v.lengthened.added head v.begun h

  first_reached : Reach (by_two (link_of f) (link_of g)) d (link_of f (get_or r.order head 0))
  first_reached = reach_trans head_reached (by_first_link (link_of f) (link_of g) (get_or r.order head 0))

  second_reached : Reach (by_two (link_of f) (link_of g)) d (link_of g (get_or r.order head 0))
  second_reached = reach_trans head_reached (by_second_link (link_of f) (link_of g) (get_or r.order head 0))

  pub head_below : get_or r.order head 0 < dart_limit
  head_below = w.below (get_or r.order head 0) head_reached

  first_read : get_or f (get_or r.order head 0) 0 ≡ link_of f (get_or r.order head 0)
  first_read = link_read f w.first_whole (get_or r.order head 0) head_below

  second_read : get_or g (get_or r.order head 0) 0 ≡ link_of g (get_or r.order head 0)
  second_read = link_read g w.second_whole (get_or r.order head 0) head_below

  pub first_below : get_or f (get_or r.order head 0) 0 < dart_limit
  first_below = rw first_read (w.below (link_of f (get_or r.order head 0)) first_reached)

  pub second_below : get_or g (get_or r.order head 0) 0 < dart_limit
  second_below = rw second_read (w.below (link_of g (get_or r.order head 0)) second_reached)

  -- a step puts its two links
  pub visit_step : {s t : Queue} → Put (get_or f (get_or r.order head 0) 0) r s →
      Put (get_or g (get_or r.order head 0) 0) s t → Visiting f g d q t (head + 1)
  visit_step {s} {t} a b =
      record {
        lengthened =
            lengthened_on v.lengthened
            (lengthened_on
            (lengthened_map a.lengthened (λ e i. rw (i ∙ first_read) first_reached))
            (lengthened_map b.lengthened (λ e i. rw (i ∙ second_read) second_reached)));
        start = later d v.start;
        begun = omega (arith, v.begun);
        within = omega (arith, a.lengthened.longer, b.lengthened.longer);
        done = λ i l.
            ⊎_elim
            (λ (m : i < head).
            let old = v.done i m in
            rw (same i (omega arith))
            (later (link_of f (get_or r.order i 0)) old.0, later (link_of g (get_or r.order i 0)) old.1))
            (λ (m : head ≤ i).
            let e : i ≡ head = omega arith in
            rw (ap (λ (k : ℕ). get_or t.order k 0) e ∙ same head h) (rw (← first_read, ← second_read)
            (lengthened_seen b.lengthened (get_or f (get_or r.order head 0) 0) a.start, b.start)))
            (lt_or_ge i head);
      }
    where
      same : (i : ℕ) → i < r.end → get_or t.order i 0 ≡ get_or r.order i 0
      same i l = b.lengthened.same i (omega (arith, a.lengthened.longer)) ∙ a.lengthened.same i l

      later : (e : ℕ) → T (test_of r.seen e) → T (test_of t.seen e)
      later e t = lengthened_seen b.lengthened e (lengthened_seen a.lengthened e t)

-- ---- the darts of the queue as a set

pub queued_none : (order : List ℕ) → no_darts ≡ set_of (queued order 0)
unfolding queued any
queued_none order = no_darts_set

pub queued_more : (order : List ℕ) (i : ℕ) →
    with_dart (set_of (queued order i)) (get_or order i 0) ≡ set_of (queued order (i + 1))
unfolding queued any
queued_more order i =
    with_set_of (queued order i) (get_or order i 0) ∙ ap (λ (k : ℕ). set_of (queued order k)) (sym (add-one i))
