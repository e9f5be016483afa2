use Rattle.transfer.proofs.Uploading.{upload_shows, others_after_upload}
use Rattle.transfer.proofs.upload_laws.upload_is_exact.Goals as goal

pub returns : goal.returns
returns c = record {
  image = λ kinds q c src image at store old rect source base shown lies ends right. upload_shows kinds q c src image at store old rect source base shown lies ends right;
  others = others_after_upload;
}
