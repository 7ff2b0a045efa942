mod Source
