-- The rules on a peer, a row each; rules of admission and on packages have their own.
use Rattle.std.specs.Prelude.{ℕ, List, [], ◌∷◌, codes}
use Rattle.gate_rules.specs.declared.peer.PeerDenial.{PeerDenial}
use Rattle.gate_rules.specs.declared.peer.PeerDenial.TheVariants.{PeerUnknown, PeerClosed, PeerKnown, BlocksOnly, AlreadyInMempool, MempoolNoBloom, MempoolUploadTarget, HeadersDuringDownload, UnknownBlock, HistoricalUploadTarget, NoPackages, Admission, Package}
use Rattle.gate_rules.specs.declared.rule.Consequence.{Consequence}
use Rattle.gate_rules.specs.declared.rule.Consequence.TheVariants.{Close, CloseAlways, Keep, Relay}
use Rattle.gate_rules.specs.Key.{Key, key}
use Rattle.gate_rules.specs.Denials.{row_of as admission_row}
use Rattle.gate_rules.specs.Packages.{row_of as package_row}

abbrev pub row_of : PeerDenial → Key
row_of PeerUnknown = key (codes "P1") (codes "peer-unknown") Keep
row_of PeerClosed = key (codes "P2") (codes "peer-closed") Keep
row_of PeerKnown = key (codes "P3") (codes "peer-known") Keep
row_of BlocksOnly = key (codes "P4") (codes "blocks-only") CloseAlways
row_of AlreadyInMempool = key (codes "P5") (codes "txn-already-in-mempool") Relay
row_of MempoolNoBloom = key (codes "P6") (codes "mempool-no-bloom") Close
row_of MempoolUploadTarget = key (codes "P7") (codes "mempool-upload-target") Close
row_of HeadersDuringDownload = key (codes "P8") (codes "headers-during-download") Keep
row_of UnknownBlock = key (codes "P9") (codes "unknown-block") Keep
row_of HistoricalUploadTarget = key (codes "P10") (codes "historical-upload-target") Close
row_of NoPackages = key (codes "P11") (codes "no-packages") Keep
row_of (Admission denial) = admission_row denial
row_of (Package denial) = package_row denial

-- all of them, in the order of their numbers
abbrev pub peers : List PeerDenial
peers =
    PeerUnknown ∷ PeerClosed ∷ PeerKnown ∷ BlocksOnly ∷ AlreadyInMempool ∷ MempoolNoBloom ∷ MempoolUploadTarget ∷ HeadersDuringDownload ∷ UnknownBlock ∷ HistoricalUploadTarget ∷ NoPackages ∷ []

-- the letter of the layer, and the number
abbrev pub name_of : PeerDenial → List ℕ
name_of denial = (row_of denial).name

abbrev pub token_of : PeerDenial → List ℕ
token_of denial = (row_of denial).token

abbrev pub then_of : PeerDenial → Consequence
then_of denial = (row_of denial).follows
