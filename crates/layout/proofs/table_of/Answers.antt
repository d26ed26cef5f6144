-- A refused table leaves no lengths. Assumes nothing.
use Rattle.layout.proofs.Tables.{nothing_known}
use Rattle.layout.proofs.table_of.Goals as goal

pub table_end-requires : goal.table_end-requires
table_end-requires c = nothing_known _
