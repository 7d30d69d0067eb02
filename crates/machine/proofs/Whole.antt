-- The promise: for every plan, every arbiter, every route rule and every kind of payload.
use Rattle.std.proofs.Common.{ℕ}
use Rattle.schedule.specs.declared.geometry.Position.{Position}
use Rattle.schedule.specs.declared.plan.Plan.{Plan}
use Rattle.rules.specs.Arbiters.{Arbitrates}
use Rattle.rules.specs.Routes.{Routes}
use Rattle.machine.specs.Machine.{Machine, machine}
use Rattle.machine.specs.Promise.{Promise}
use Rattle.machine.proofs.AtHome.{at_home, in_time}
use Rattle.machine.proofs.Home.{home_mono, home_bound}
use Rattle.machine.proofs.Laws.{Kept}
use Rattle.machine.proofs.OverRuns.{isolated, in_order, nothing_lost, never_unsound}
use Rattle.machine.proofs.Paths.{path_there}
use Rattle.machine.proofs.Setup.{kept}

promise_kept : (P : Type 0) (m : Machine) → Kept m → Promise P m
promise_kept P m k = record {
  isolated = isolated P m k;
  in_time = in_time P m k;
  at_home = at_home P m k;
  home_in_order = λ domain router path t u hd l. home_mono m k.timed domain hd path router t u l;
  home_by_bound = λ domain router destination path t hd hr walk. home_bound m k.timed domain hd destination path router t hr walk;
  paths = λ router destination hr he. path_there m k.lawful destination he router hr;
  in_order = in_order P m k;
  nothing_lost = nothing_lost P m k;
  never_unsound = never_unsound P m k;
}

pub promise : (P : Type 0) (plan : Plan) (bits : ℕ) (choose : ℕ → ℕ → ℕ × ℕ) (route : Position → Position → ℕ)
    → Arbitrates bits choose → Routes route → Promise P (machine plan choose route)
promise P plan bits choose route arbitrates routes = promise_kept P (machine plan choose route)
    (kept plan bits choose route arbitrates routes)
