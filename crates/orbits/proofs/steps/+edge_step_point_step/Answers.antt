-- What a step comes to is a law of proofs/Moves.
use Rattle.std.proofs.Common.{◌≡◌, ℕ, sym, ap, ◌∙◌}
use Rattle.orbits.specs.declared.Walker.{Walker}
use Rattle.orbits.specs.Walks.{walker_at}
use Rattle.orbits.proofs.Moves.{edge_stops, edge_ends, edge_leads, point_stops, point_ends, point_leads}
use Rattle.orbits.proofs.steps.+edge_step_point_step.Goals as goal

-- the dart of a walker that stands at d
leads : {w : Walker} {d : ℕ} → w ≡ walker_at d → w.dart ≡ d
leads e = ap (λ (w : Walker). w.dart) e

pub edge_step-returns-then-left-eq0 : goal.edge_step-returns-then-left-eq0
edge_step-returns-then-left-eq0 t c = c.ended.ensures ∙ sym (edge_stops _ _ _ _ _ _ c.if-left-eq0.true)

pub edge_step-returns-then-next-walker : goal.edge_step-returns-then-next-walker
edge_step-returns-then-next-walker t c =
    c.ended-then-next-walker.ensures
    ∙ sym (edge_ends _ _ _ _ _ _ _ c.if-left-eq0.false (leads c.moved-next.ensures) c.if-next-walker.true)

pub edge_step-returns : goal.edge_step-returns
edge_step-returns t c =
    c.point_step.ensures
    ∙ sym (edge_leads _ _ _ _ _ _ _ c.if-left-eq0.false (leads c.moved-next.ensures) c.if-next-walker.false)

pub point_step-returns-then-left-eq0 : goal.point_step-returns-then-left-eq0
point_step-returns-then-left-eq0 t c = c.ended.ensures ∙ sym (point_stops _ _ _ _ _ _ c.if-left-eq0.true)

pub point_step-returns-then-next-start : goal.point_step-returns-then-next-start
point_step-returns-then-next-start t c =
    c.ended-then-next-start.ensures
    ∙ sym (point_ends _ _ _ _ _ _ _ c.if-left-eq0.false (leads c.moved-next.ensures) c.if-next-start.true)

pub point_step-returns : goal.point_step-returns
point_step-returns t c =
    c.edge_step.ensures
    ∙ sym (point_leads _ _ _ _ _ _ _ c.if-left-eq0.false (leads c.moved-next.ensures) c.if-next-start.false)
