mod FirstFits
