-- `files::merge::Both::write` meets its contract: 15, or the result.
use Rattle.files.specs.Merging.{merged_file}
use Rattle.files.specs.MergeSteps.{result_put}
use Rattle.files.proofs.merge.Both.write.Goals as goal

pub returns : goal.returns
returns c = result_put (merged_file c.args.self.first.bytes.now c.args.self.second.bytes.now) c.args.buffer.now _ c.size-size.ensures c.if-buffer-size.false c.put.ensures
