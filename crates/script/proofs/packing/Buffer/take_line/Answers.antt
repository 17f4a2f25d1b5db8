-- `Buffer::take_line` meets its contract: a record is written over the part of the buffer that is not full.
use Rattle.std.proofs.Common.{refl, sym}
use Rattle.records.specs.Bytes.{sizes_bytes, step_bytes, low_first}
use Rattle.script.specs.Packing.{added_by}
use Rattle.script.proofs.Puts.{put_part}
use Rattle.script.proofs.packing.Buffer.take_line.Goals.{in-Sizes+in_ok-write_sizes-in-Sizes, in-Step+in_ok-write_step-in-Step}
use Rattle.script.proofs.packing.Buffer.take_line.Goals as goal

pub returns-in_err-write_sizes-in-Sizes-clause-bytes :
    goal.returns-in_err-write_sizes-in-Sizes-clause-bytes
unfolding added_by sizes_bytes
returns-in_err-write_sizes-in-Sizes-clause-bytes c =
    let out = c.args.self.now.out.now in
    rw (sym c.record.ensures, c.in_ok-record.was, c.in-Some.is, c.in-Sizes.is, c.write_sizes.ensures.bytes) (put_part c.args.self.now.full (sizes_bytes c.in-Sizes.sizes) out refl c.requires)

pub returns-in_err-write_step-in-Step-clause-bytes :
    goal.returns-in_err-write_step-in-Step-clause-bytes
unfolding added_by step_bytes low_first
returns-in_err-write_step-in-Step-clause-bytes c =
    let out = c.args.self.now.out.now in
    rw (sym c.record.ensures, c.in_ok-record.was, c.in-Some.is, c.in-Step.is, c.write_step.ensures.bytes) (put_part c.args.self.now.full (step_bytes c.in-Step.step) out refl c.requires)

pub returns-clause-bytes : goal.returns-clause-bytes
unfolding added_by sizes_bytes step_bytes low_first
returns-clause-bytes c =
    let out = c.args.self.now.out.now in
    elim c.match-record.branch [
      | in-Sizes+in_ok-write_sizes-in-Sizes w ↦ rw (w.self-is, sym c.record.ensures, c.in_ok-record.was, c.in-Some.is, w.in-Sizes.is, w.write_sizes.ensures.bytes) (put_part c.args.self.now.full (sizes_bytes w.in-Sizes.sizes) out refl c.requires)
      | in-Step+in_ok-write_step-in-Step w ↦ rw (w.self-is, sym c.record.ensures, c.in_ok-record.was, c.in-Some.is, w.in-Step.is, w.write_step.ensures.bytes) (put_part c.args.self.now.full (step_bytes w.in-Step.step) out refl c.requires)
    ]
