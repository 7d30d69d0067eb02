-- Moves that may be made one after the other, in place.
use Rattle.std.specs.Prelude.{◌≡◌, ℕ, ◌+◌, ◌*◌, ◌/◌, ◌%◌, ◌<◌, true, List, None, Option, slice_index_or}
use Rattle.schedule.specs.declared.plan.Plan.{Plan}
use Rattle.machine.specs.declared.tables.Queue.{Queue}
use Rattle.mesh.specs.declared.moves.Move.{Move}
use Rattle.mesh.specs.Heads.{no_queue, queue_count}
use Rattle.mesh.specs.Ports.{move_at, passes_at}
use Rattle.mesh.specs.After.{landing}

-- the queue that port k takes a packet from
abbrev pub source : Plan → List (Option Move) → ℕ → ℕ
source plan moves k = (k / 5 * 5 + (move_at moves k).winner) * plan.sizes.domains + (move_at moves k).owner

-- the first free place of queue q
abbrev pub end_place : Plan → List Queue → ℕ → ℕ
end_place plan queues q = q * plan.sizes.depth + ((slice_index_or queues q no_queue).first + (slice_index_or queues q no_queue).count) % plan.sizes.depth

-- each port takes from a queue of its own, which is not empty, and from a place where no packet lands
pub record Orderly (plan : Plan) (queues : List Queue) (moves : List (Option Move)) : Type 0 where
  pub owns : (k : ℕ) → (move_at moves k).owner < plan.sizes.domains
  pub wins : (k : ℕ) → (move_at moves k).winner < 5
  pub some : (k : ℕ) → passes_at moves k ≡ true → 0 < (slice_index_or queues (source plan moves k) no_queue).count
  pub sole : (j k : ℕ) → passes_at moves j ≡ true → passes_at moves k ≡ true → source plan moves j ≡ source plan moves k
      → j ≡ k
  pub froms : (k : ℕ) → (move_at moves k).from < queue_count plan * plan.sizes.depth
  pub clear : (k : ℕ) → passes_at moves k ≡ true → landing plan queues moves (move_at moves k).from ≡ None
