-- The paths of what stands in a body.
use Rattle.std.specs.Prelude.{ℕ, List, codes}
use Rattle.lg_readings.specs.Paths.{top, below, item_below}
use Rattle.lg_readings.specs.Paths as paths
use Rattle.lg_codec.specs.declared.path_parts.Base.{Base}
use Rattle.lg_codec.specs.declared.path_parts.Base.TheVariants.{Body, Data, Transaction}
use Rattle.lg_codec.specs.declared.path_parts.Holder.{Holder}
use Rattle.lg_codec.specs.declared.path_parts.Holder.TheVariants.{Whole, Member, Account}
use Rattle.lg_codec.specs.declared.path_parts.Path.{Path}
use Rattle.lg_codec.specs.declared.path_parts.Path.TheVariants as path

abbrev pub base_path : Base → paths.Path
base_path Body = top
base_path Data = below top (codes "data")
base_path Transaction = below (below top (codes "data")) (codes "transaction")

abbrev pub holder_path : Holder → paths.Path
holder_path (Whole base) = base_path base
holder_path (Member base name) = below (base_path base) name.now
holder_path (Account base address) = below (below (base_path base) (codes "accountMetadata")) address.now

abbrev pub path_of : Path → paths.Path
path_of (path.Holder holder) = holder_path holder
path_of (path.Posting base place) = item_below (base_path base) (codes "postings") place
path_of (path.PostingMember base place name) = below (item_below (base_path base) (codes "postings") place) name.now
path_of (path.Named holder name) = below (holder_path holder) name.now
