use Rattle.transfer.proofs.Uploading.{upload_fits, upload_none_empty}
use Rattle.transfer.proofs.upload_laws.upload_fits.Goals as goal

pub returns : goal.returns
returns c = record {
  fits = λ kinds src image at len store info rect. upload_fits src image at store info rect kinds len;
  none_empty = upload_none_empty;
}
