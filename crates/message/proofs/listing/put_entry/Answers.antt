-- Three words, one behind the other. Assumes nothing.
use Rattle.message.proofs.Entries.{entry-stored}
use Rattle.message.proofs.listing.put_entry.Goals as goal

pub returns : goal.returns
returns c = entry-stored _ _ _ _ _ _ _ _ c.put_word.ensures c.put_word-2.ensures c.put_word-3.ensures
