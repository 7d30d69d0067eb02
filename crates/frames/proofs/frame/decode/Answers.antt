use Rattle.frames.proofs.OneFrame.{one_frame}
use Rattle.frames.proofs.frame.decode.Goals as goal

pub returns-clause-one : goal.returns-clause-one
returns-clause-one c = one_frame
