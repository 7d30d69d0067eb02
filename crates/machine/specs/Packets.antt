-- Packets, and one domain's part of a mesh: its queues packet by packet, its words, and the cycle.
use Rattle.std.specs.Prelude.{ℕ, List}

pub record Packet (P : Type 0) : Type 0 where
  pub destination : ℕ
  pub source : ℕ
  pub ready : ℕ
  pub payload : P

-- a domain's queues by router and side, the first packet first, and its arbiter words by router and port
pub record View (P : Type 0) : Type 0 where
  pub cycle : ℕ
  pub queue : ℕ → ℕ → List (Packet P)
  pub word : ℕ → ℕ → ℕ

-- a packet that came home: in which cycle, at which router, from where, with what
pub record Arrival (P : Type 0) : Type 0 where
  pub cycle : ℕ
  pub router : ℕ
  pub source : ℕ
  pub payload : P
