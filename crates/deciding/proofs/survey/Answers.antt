-- `deciding::survey` meets its contract: a turn decides the line at the reader's place, which moves
-- the reader on in the same text; at the end of the text all lines are decided.
use mathlib.Core.Path.{◌≡◌, refl, sym, ap, subst, ◌∙◌}
use mathlib.Core.Bool.{Bool, true, false, cond}
use mathlib.Core.List.{List}
use Prim.Native.Nat.{ℕ, ◌+◌}
use native.Mathlib.Omega.{arith}
use lib.ListN.{set}
use Rattle.std.specs.declared.option.Option.TheVariants.{Some, None}
use Rattle.std.specs.declared.result.Result.{Result}
use Rattle.model.specs.declared.Refusal.{Refusal}
use Rattle.model.specs.declared.Point.{Point}
use Rattle.model.specs.declared.Arrival.{Arrival}
use Rattle.model.specs.declared.Map.{Map}
use Rattle.survey.specs.Places.{at_end, line_at, next_line}
use Rattle.survey.specs.Readers.{line_of, moved_on, taken}
use Rattle.survey.specs.declared.reader.Reader.{Reader}
use Rattle.admission.specs.declared.hashes.Hashes.{Hashes}
use Rattle.lines.specs.Packing.{packed}
use Rattle.deciding.specs.Deciding.{Surveying, DecidedLine}
use Rattle.deciding.proofs.Decisions.{decidable, line_decided, all_decided}
use Rattle.deciding.proofs.survey.Goals as goal

-- what a reader of the text takes
module _ {text : List ℕ} (r : Reader) (same : r.text.now ≡ text) where
  module _ {line : Result Point Refusal} (e : Some line ≡ taken r) where
    parts : (at_end r.text.now r.at ≡ false) × (line ≡ line_of r)
    parts = go (at_end r.text.now r.at) refl e
      where
        go : (b : Bool) → at_end r.text.now r.at ≡ b → Some line ≡ cond b None (Some (line_of r)) →
            (at_end r.text.now r.at ≡ false) × (line ≡ line_of r)
        go true is e = absurd (let z : ◌≡◌ {A = ℕ} 0 1 = cc in omega arith)
        go false is e = (is, cc)

    there : at_end text r.at ≡ false
    there = subst (λ (t : List ℕ). at_end t r.at ≡ false) same parts.0

    here : line ≡ line_at text r.at
    here = subst (λ (t : List ℕ). line ≡ line_at t r.at) same parts.1

  ended : None ≡ taken r → at_end text r.at ≡ true
  ended e = subst (λ (t : List ℕ). at_end t r.at ≡ true) same (go (at_end r.text.now r.at) refl e)
    where
      go : (b : Bool) → at_end r.text.now r.at ≡ b → None ≡ cond b None (Some (line_of r)) →
          at_end r.text.now r.at ≡ true
      go true is e = is
      go false is e = absurd (let z : ◌≡◌ {A = ℕ} 0 1 = cc in omega arith)

  module _ {later : Reader} (moved : later ≡ moved_on r) where
    same_later : later.text.now ≡ text
    same_later = ap (λ (q : Reader). q.text.now) moved ∙ same

    its_place : next_line text r.at ≡ later.at
    its_place =
        sym (ap (λ (q : Reader). q.at) moved ∙ ap (λ (t : List ℕ). next_line t r.at) same)

    -- the line is decided, and the reader stands at the next one
    goes_on : {m after : Map} {hashes more : Hashes} {answers : List ℕ} {n v : ℕ}
        {line : Result Point Refusal} {a : Result Arrival Refusal} →
        Surveying text m hashes answers n r.at → Some line ≡ taken r → DecidedLine m after more line a →
        v ≡ packed a → Surveying text after more (set answers n v) (n + 1) later.at
    goes_on {after = after} {more = more} {answers = answers} {n = n} s e d put =
        rw (put, ← its_place) (line_decided s (there e) (here e) d)

pub decide_line-answer-requires : goal.decide_line-answer-requires
decide_line-answer-requires c =
    let i = c.loop-line.invariant in
    let e = c.in-Some.ensures.steps.0 in
    let r = c.loop-line.line-iterator in
    decidable i.1 (there r i.0 e) (here r i.0 e)

pub loop-line-preserved : goal.loop-line-preserved
loop-line-preserved c =
    let i = c.loop-line.invariant in
    let r = c.loop-line.line-iterator in
    let g = c.in-Some.ensures.steps in
    (same_later r i.0 g.1, goes_on r i.0 g.1 i.1 g.0 c.decide_line-answer.ensures c.packed.ensures)

pub returns : goal.returns
returns c =
    let i = c.loop-line.invariant in
    all_decided i.1 (ended c.loop-line.line-iterator i.0 c.in-None.ensures.steps.0)
