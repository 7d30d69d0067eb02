use Rattle.std.proofs.Common.{replicate, ap, ◌∙◌}
use Rattle.runner.specs.Running.{at_first}
use Rattle.runner.proofs.state.RunningMesh.at_first.Goals as goal

pub returns : goal.returns
unfolding at_first
returns c = λ i. record {
  timetable = c.smallest.ensures i;
  arbiter = at_first.arbiter;
  route = at_first.route;
  payload = at_first.payload;
  cycle = 0;
  queues = replicate 320 (record { first = c.default.ensures.0 i; count = c.default.ensures.1 i });
  places = replicate 1280 (record { destination = c.default-2.ensures.0 i; source = c.default-2.ensures.1.0 i; ready = c.default-2.ensures.1.1 i });
  words = at_first.words;
  word_payloads = c.filled_with.ensures i;
  record_payloads =
      (c.filled_with-2.ensures ∙ ap (replicate 1280) (λ j. record { tank = c.default-3.ensures.0 j; litres = c.default-3.ensures.1 j })) i;
}
