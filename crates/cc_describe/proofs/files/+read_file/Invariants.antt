use Rattle.std.proofs.Common.{◌≡◌, ◌++◌, ◌∷◌, [], ◌≤◌, ℕ, List, Some, option_map}
use Rattle.cc_ports.specs.Contents.{Contents, with_rest}
use Rattle.cc_text.specs.Views.{token_views, cut_at}
use Rattle.cc_describe.specs.declared.heads.Heads.{Heads}
use Rattle.cc_describe.specs.Places.{Place, AreThere}
use Rattle.cc_describe.specs.ProgressViews.{IsProgress, OpensAsKept}
use Rattle.cc_describe.proofs.SomePlaces.{Gone}
use Rattle.cc_describe.proofs.Walk.{Midway}
use Rattle.cc_describe.proofs.files.+read_file.Given as goal

abbrev pub decreases-read_file : goal.decreases-read_file
decreases-read_file g l = l.deep

abbrev pub invariant-loop-i : goal.invariant-loop-i
invariant-loop-i g l = record {
  around : l.progress.around.items ≡ l.fn.progress.around.items ++ l.name ∷ [];
  gone : (contents : Contents) (which : Heads) (before : List Place) → (g.D.Desk.seen l.fn.desk).told ≡ Some contents → IsProgress which l.fn.progress before →
      Midway which l.deep contents.files before l.name l.file (l.fn.progress.around.items ++ l.name ∷ []) (cut_at 0 l.tokens-inside.ends.items (token_views l.tokens-inside.tokens.items)) l.i l.progress;
  kept : (which : Heads) (before : List Place) → IsProgress which l.fn.progress before → Gone which before l.progress;
  there : (contents : Contents) → (g.D.Desk.seen l.fn.desk).told ≡ Some contents → AreThere contents.files l.fn.progress.names.items →
      AreThere contents.files l.progress.names.items;
  told : (rest : List ℕ) × ((g.D.Desk.seen l.desk).told ≡ option_map (with_rest rest) (g.D.Desk.seen l.fn.desk).told);
  calls : OpensAsKept l.fn.progress.names.items l.progress.names.items (g.D.Desk.seen l.fn.desk).calls (g.D.Desk.seen l.desk).calls;
  calm : ((g.D.Desk.seen l.desk).reads ≡ (g.D.Desk.seen l.fn.desk).reads) × ((g.D.Desk.seen l.desk).writes ≡ (g.D.Desk.seen l.fn.desk).writes);
  begun : (g.D.Desk.seen l.desk).begun ≡ (g.D.Desk.seen l.fn.desk).begun;
  reads_count : (g.D.Desk.seen l.fn.desk).reads ≤ (g.D.Desk.seen l.desk).reads;
  writes_count : (g.D.Desk.seen l.fn.desk).writes ≤ (g.D.Desk.seen l.desk).writes;
}
