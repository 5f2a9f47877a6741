use Rattle.std.proofs.Common.{◌≡◌, ◌-◌, ◌^◌, ◌≤◌}
use Rattle.std.specs.Option.{IfSome}
use Rattle.trace_outside.specs.Causes.{raised}
use Rattle.trace_outside.specs.Keeping.{KeepsFile}
use Rattle.trace_outside.specs.Seen.{folder_seen}
use Rattle.time_merge.specs.LaneRows.{parts_of}
use Rattle.split_pieces.specs.Cuts.{bad_reached}
use Rattle.split_tool.specs.Lists.{lanes_of}
use Rattle.split_tool.specs.NewFiles.{new_files}
use Rattle.split_tool.specs.Numbered.{Numbered}
use Rattle.split_tool.specs.Reads.{Spent, to_read}
use Rattle.new_files.specs.Stored.{KeepsCounts}
use Rattle.split_tool.specs.Work.{CanCut}
use Rattle.split_tool.proofs.Making.{Progress}
use Rattle.split_tool.proofs.splitting.split.Given as goal

abbrev pub invariant-loop-number : goal.invariant-loop-number
invariant-loop-number g l = record {
  cut : CanCut l.plan.rules l.plan.header.now l.lists l.work;
  parts : parts_of (lanes_of l.lists) ≡ parts_of (lanes_of l.fn.lists);
  progress : IfSome (g.F.File.bytes l.fn.file) (λ file. Progress l.plan.header.now l.plan.base.now file l.plan.rules (new_files l.plan.rules l.plan.base.now l.plan.header.now file (parts_of (lanes_of l.fn.lists)))
      (bad_reached l.plan.rules l.plan.header.now.layout file (parts_of (lanes_of l.fn.lists))) l.number (lanes_of l.lists) (g.D.Folder.files l.fn.folder) (g.D.Folder.files l.folder));
  spent : Spent (to_read (g.F.File.size l.fn.file) (lanes_of l.fn.lists)) (to_read (g.F.File.size l.fn.file) (lanes_of l.lists)) (g.F.File.reads l.fn.file) (g.F.File.reads l.file);
  keeps : KeepsFile g.F.File l.fn.file l.file;
  counts : KeepsCounts (g.D.Folder.counts l.fn.folder) (g.D.Folder.counts l.folder);
  unfinished : (g.D.Folder.counts l.folder).unfinished ≡ (g.D.Folder.counts l.fn.folder).unfinished;
  numbered : Numbered l.plan.base.now (l.number - 1) 0 (folder_seen g.D.Folder l.fn.folder) (folder_seen g.D.Folder l.folder);
  created : (g.D.Folder.counts l.folder).created ≡ raised (g.D.Folder.counts l.fn.folder).created (l.number - 1);
  least : 1 ≤ l.number;
}

-- a range of 128 bits has no measure of its own
abbrev pub decreases-loop-number : goal.decreases-loop-number
decreases-loop-number g l = 2 ^ 128 - l.number
