use Rattle.std.proofs.Common.{refl}
use Rattle.std.proofs.lemmas.Bool.{false≢true}
use Rattle.schedule.specs.Built.{built, built_entry}
use Rattle.schedule.specs.Verdict.{size_check, slot_check, domain_check, offset_check, wave_check, refuse_first, breaks}
use Rattle.machine.specs.Machine.{width, domains, depth, hop, routers, inside, owner, towards, beyond, opposite, queues, queue_number}
use Rattle.machine.specs.Cycle.{asks, bit, asking, room_beyond, room, grants, winner, next_word, first_leaves, leaves, sends, ready_at, joins, stays, after, arrival, delivers}
use Rattle.machine.specs.Tables.{queue_at, place_at, at, packet_at, packets, view, sound_packet, sound_packets, sound_queue, all_below, sound}
use Rattle.machine.specs.Moves.{edit, queue_after, is_end, place_after, payload_after, moved, domain_of, side_of, router_of, cycle_moves, injection_moves, handed_over, record_of, payload_beside}
use Rattle.machine.specs.Calls.{opening_answer, opening_refusal, lengths, long_enough, step_long_enough, check, injection_refusal, room_refusal, step_refusal, answer, if_accepted, own_queue, answer_to, fresh, accepted, unchanged, outcome, opened}
use Rattle.machine.specs.Runs.{asked, asked_by, lent, back, lend, take_back, happens, next, new}
use Rattle.machine.specs.Promise.{OnlyAfter, Path, bound, held, injects, straight_runs, total}
use Rattle.examples.proofs.proved.worked_examples_hold.Goals as goal

pub returns : goal.returns
unfolding OnlyAfter Path held injects total asked asked_by opening_answer opening_refusal width domains depth hop routers inside owner towards beyond opposite queues queue_number asks bit asking room_beyond room grants winner next_word first_leaves leaves sends ready_at joins stays after arrival delivers queue_at place_at at packet_at packets view sound_packet sound_packets sound_queue all_below sound edit queue_after is_end place_after payload_after moved domain_of side_of router_of cycle_moves injection_moves handed_over record_of payload_beside lengths long_enough step_long_enough check injection_refusal room_refusal step_refusal answer if_accepted own_queue answer_to fresh accepted unchanged outcome opened lent back lend take_back happens next new bound straight_runs built built_entry size_check slot_check domain_check offset_check wave_check refuse_first breaks
returns c = record {
  east_of_5 = refl;
  west_of_5 = refl;
  east_of_2 = refl;
  west_of_2 = refl;
  gap_of_0 = refl;
  gap_of_1 = refl;
  rotates = refl;
  lists = refl;
  fixes = refl;
  breaks = refl;
  broken_number = refl;
  by_columns = refl;
  by_rows = refl;
  longest_period = refl;
  longer_period = refl;
  longer_number = refl;
  second_injection = refl;
  full_number = refl;
  not_yet = refl;
  delivered = refl;
  delivered_payload = refl;
  delivered_in_1 = refl;
  bound_is_1 = refl;
  opens = refl;
  path = refl;
  alone = record {
    injected = refl;
    count = 1;
    accepted = refl;
    nothing_held = refl;
    none_accepted = ((λ a. absurd (false≢true a.injects_one)), ((λ a. absurd (false≢true a.injects_one)), tt));
  };
}
