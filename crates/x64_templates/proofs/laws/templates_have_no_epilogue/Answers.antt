use Rattle.x64_templates.proofs.Epilogues.{template_no_epilogue}
use Rattle.x64_templates.proofs.laws.templates_have_no_epilogue.Goals as goal

pub returns : goal.returns
returns c = template_no_epilogue
