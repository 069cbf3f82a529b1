use mathlib.Core.Path.{sym, ◌∙◌}
use Rattle.plan.proofs.Refusals.{refused-on}
use Rattle.steps.proofs.Entry.{passes, from-refuses, from-replays}
use Rattle.propagation.proofs.replay.check_from.Goals as goal

pub returns-in_err-test_entry : goal.returns-in_err-test_entry
returns-in_err-test_entry c =
    let ended = from-refuses _ _ _ _ _ _ _ _ (sym c.in_err-test_entry.ensures) in
    (refused-on _ _ c.from_residual.ensures.1 ∙ ended.0, ended.1)

pub replay_log-requires : goal.replay_log-requires
replay_log-requires c =
    record {
      passed = passes _ _ _ _ _ (sym c.in_ok-test_entry.ensures);
      count_fits = c.requires;
    }

pub returns : goal.returns
returns c = from-replays _ _ _ _ _ _ _ (sym c.in_ok-test_entry.ensures) _ _ c.replay_log.ensures
