-- Each field is the number at its place, as much of it as the field holds; interlace mode, edition and HTD are their callees'.
use Rattle.numbers.specs.Decode.{settings_at}
use Rattle.numbers.proofs.decode.settings_at.Goals as goal

pub returns : goal.returns
unfolding settings_at
returns c =
    let v = settings_at c.args.n.now in
    λ i. record {
      linear = v.linear;
      hidden = v.hidden;
      interlace = c.from-interlace.ensures i;
      cursor = v.cursor;
      flag = v.flag;
      top = v.top;
      tow = v.tow;
      vsw = c.held-vsw.ensures i;
      vsd = c.held-vsd.ensures i;
      val = c.held-val.ensures i;
      vtot = c.held-vtot.ensures i;
      hsync = c.held-hsync.ensures i;
      hsd = c.held-hsd.ensures i;
      htc = c.held-htc.ensures i;
      htd = c.htd_at-htd.ensures i;
      edition = c.from-edition.ensures i;
    }
